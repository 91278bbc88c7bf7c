use Prim.Native.Nat.{◌+◌}
use Rattle.ranges.proofs.Turn.{Done}
use Rattle.one_row.specs.Row.{slanted}
use Rattle.one_segment.proofs.add_slant.Given as goal

abbrev pub invariant-loop-i : goal.invariant-loop-i
invariant-loop-i l = Done (slanted l.p l.edge l.dy) l.base (l.base + l.i) l.initial.area l.area
