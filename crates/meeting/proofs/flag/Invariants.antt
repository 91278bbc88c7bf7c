use mathlib.Core.Path.{◌≡◌}
use Prim.Native.Nat.{◌-◌, ◌+◌}
use Rattle.lists.specs.Sums.{sum}
use Rattle.meeting.specs.Found.{KeptBelow, FlagsNew}
use Rattle.meeting.proofs.flag.Given as goal

abbrev pub invariant-loop-k : goal.invariant-loop-k
invariant-loop-k l = KeptBelow l.a l.initial.work l.work × FlagsNew l.initial.work l.work l.a l.k × (sum l.work ≡ sum l.initial.work + (l.k - l.a))
