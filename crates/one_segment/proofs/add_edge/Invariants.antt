use Prim.Native.Nat.{◌+◌}
use Rattle.ranges.proofs.Turn.{Done}
use Rattle.one_row.specs.Row.{edged}
use Rattle.one_segment.proofs.add_edge.Given as goal

abbrev pub invariant-loop-i : goal.invariant-loop-i
invariant-loop-i l = Done (edged l.edge) l.base (l.base + l.i) l.initial.area l.area
