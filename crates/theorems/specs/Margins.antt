-- A line whose path's box has a margin around it. docs/THEOREMS.md, 16. Definitions only.
use Rattle.std.specs.Prelude.{ℕ, List, get_or, Float}
use Rattle.panel.specs.Paths.{path_at}
use Rattle.walk.specs.Lent.{line_at}
use Rattle.margin.specs.Room.{Inside}

-- the box of line l's path reaches a tile further than the tiles of its ends on every side
abbrev pub MarginLine : (nos : List ℕ) (coords : List Float) (paths : List ℕ) (l : ℕ) → Type 0
MarginLine nos coords paths l = Inside (path_at paths (get_or nos l 0)) (line_at coords l).p0 × Inside (path_at paths (get_or nos l 0)) (line_at coords l).p1
