use mathlib.Core.Path.{◌≡◌}
use Rattle.lists.specs.Sums.{first}
use Rattle.meeting.specs.Found.{KeptBelow}
use Rattle.entries.specs.Noted.{SumsNoted}
use Rattle.entries.proofs.sum_up.Given as goal

abbrev pub invariant-loop-t : goal.invariant-loop-t
invariant-loop-t l =
    KeptBelow l.at l.initial.work l.work × SumsNoted l.initial.work l.work l.at l.t × (l.sum ≡ first l.initial.work l.t)
