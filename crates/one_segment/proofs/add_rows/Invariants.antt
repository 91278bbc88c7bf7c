use Prim.Native.Nat.{◌*◌}
use Rattle.sides.specs.Tile.{row_start}
use Rattle.tile_rows.specs.Rows.{rows_at_once, step_in}
use Rattle.ranges.proofs.Turn.{Done}
use Rattle.one_segment.proofs.add_rows.Given as goal

abbrev pub invariant-loop-four : goal.invariant-loop-four
invariant-loop-four l = Done (step_in l.w l.rows.ys l.rows.y0s l.rows.y1s l.rows.dys l.rows.edges) 0 (row_start (rows_at_once * l.four)) l.initial.area l.area
