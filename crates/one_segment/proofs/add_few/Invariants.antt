use Prim.Native.Nat.{◌≤◌}
use Rattle.sides.specs.Tile.{row_start}
use Rattle.one_row.specs.Row.{step_way}
use Rattle.ranges.proofs.Turn.{Done}
use Rattle.one_segment.proofs.add_few.Given as goal

abbrev pub invariant-loop-yi : goal.invariant-loop-yi
invariant-loop-yi l = (l.from ≤ l.yi) × Done (step_way l.w l.yt) (row_start l.from) (row_start l.yi) l.initial.area l.area
