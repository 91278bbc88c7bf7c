use Rattle.coverage.specs.Coverage.{finish_of}
use Rattle.ranges.proofs.Turn.{Done}
use Rattle.coverage.proofs.area.finish_all.Given as goal

abbrev pub invariant-loop-i : goal.invariant-loop-i
invariant-loop-i l = Done (λ k x. finish_of l.eo x) 0 l.i l.initial.area l.area
