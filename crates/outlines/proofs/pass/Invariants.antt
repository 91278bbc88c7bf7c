use mathlib.Core.Path.{◌≡◌}
use lib.ListN.{length}
use Rattle.outlines.specs.Told.{Noted, LeastEnded}
use Rattle.outlines.proofs.pass.Given as goal

abbrev pub invariant-loop-i : goal.invariant-loop-i
invariant-loop-i l =
    (length l.work ≡ length l.initial.work) × Noted l.path_nos l.coords l.i l.work × LeastEnded l.path_nos l.coords l.i (length l.path_nos) l.best
