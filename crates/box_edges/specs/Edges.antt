-- The edges of a path's box as floats. Definitions only.
use Rattle.panel.specs.declared.kinds.Path.{Path}
use Rattle.walk.specs.Num.{float}
use Rattle.box_edges.specs.declared.Edges.{Edges}

abbrev pub edges_of : Path → Edges
edges_of b = record { left = float b.x0; top = float b.y0; right = float b.x1; bottom = float b.y1 }
