use Rattle.ranges.proofs.Turn.{Done}
use Rattle.coverage.proofs.area.set_all.Given as goal

abbrev pub invariant-loop-i : goal.invariant-loop-i
invariant-loop-i l = Done (λ k x. l.v) 0 l.i l.initial.area l.area
