use Prim.Native.Nat.{◌+◌}
use Rattle.sides.specs.Tile.{row_start}
use Rattle.tile_rows.specs.Rows.{step_in}
use Rattle.ranges.proofs.Turn.{Done}
use Rattle.one_segment.proofs.add_four.Given as goal

abbrev pub invariant-loop-k : goal.invariant-loop-k
invariant-loop-k l = Done (step_in l.w l.rows.ys l.rows.y0s l.rows.y1s l.rows.dys l.rows.edges) (row_start l.yi) (row_start (l.yi + l.k)) l.initial.area l.area
