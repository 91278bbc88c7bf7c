use mathlib.Core.Path.{◌≡◌}
use mathlib.Core.List.{◌++◌}
use lib.ListN.{take, drop}
use Rattle.lists.specs.Sums.{first}
use Rattle.hand_out.specs.HandOut.{hand}
use Rattle.hand_out.proofs.fill.Given as goal

abbrev pub invariant-loop-t : goal.invariant-loop-t
invariant-loop-t l =
    (l.next.0 ≡ first l.initial.counts l.t) × (l.counts ≡ hand 0 (take l.t l.initial.counts) ++ drop l.t l.initial.counts)
    × (l.tally ≡ take l.t l.initial.counts ++ drop l.t l.initial.tally)
