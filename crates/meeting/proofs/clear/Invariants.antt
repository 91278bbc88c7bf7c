use Rattle.meeting.specs.Found.{KeptBelow}
use Rattle.meeting.proofs.Stores.{ClearTo}
use Rattle.meeting.proofs.clear.Given as goal

abbrev pub invariant-loop-k : goal.invariant-loop-k
invariant-loop-k l = KeptBelow l.free l.initial.work l.work × ClearTo l.free l.k l.work
