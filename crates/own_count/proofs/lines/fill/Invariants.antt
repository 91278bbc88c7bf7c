use Rattle.own_count.specs.View.{Filled}
use Rattle.own_count.proofs.lines.fill.Given as goal

abbrev pub invariant-loop-k : goal.invariant-loop-k
invariant-loop-k l = Filled l.a l.k l.v l.initial.work l.work
