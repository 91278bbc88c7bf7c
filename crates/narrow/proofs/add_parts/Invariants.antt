use Prim.Native.Nat.{◌+◌}
use Rattle.narrow.specs.Narrow.{parted}
use Rattle.ranges.proofs.Turn.{Done}
use Rattle.narrow.proofs.add_parts.Given as goal

abbrev pub invariant-loop-i : goal.invariant-loop-i
invariant-loop-i l = Done (parted l.edge l.dy l.parts l.g) l.base (l.base + l.i) l.initial.area l.area
