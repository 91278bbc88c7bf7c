use mathlib.Core.Path.{◌≡◌}
use Prim.Native.Nat.{◌-◌}
use lib.ListN.{length}
use Rattle.path_reach.specs.Words.{gather_from}
use Rattle.path_reach.proofs.gather.Given as goal

abbrev pub invariant-loop-l : goal.invariant-loop-l
invariant-loop-l l =
    (length l.work ≡ length l.initial.work)
    × (gather_from l.path_nos l.coords (length l.path_nos - l.l) l.l l.work ≡ gather_from l.path_nos l.coords (length l.path_nos) 0 l.initial.work)
