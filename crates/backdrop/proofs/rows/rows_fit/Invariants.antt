use mathlib.Core.Path.{◌≡◌}
use Prim.Native.Nat.{◌≤◌, ◌-◌, ◌+◌, ◌*◌}
use lib.ListN.{length}
use Rattle.backdrop.specs.Backdrop.{rows_fit}
use Rattle.backdrop.proofs.rows.rows_fit.Given as goal

abbrev pub invariant-loop-y : goal.invariant-loop-y
invariant-loop-y l =
    (l.at + (l.height - l._y) * l.width ≤ length l.backdrops) × (rows_fit (l.height - l._y) l.width l.at l.backdrops ≡ rows_fit l.height l.width l.first l.backdrops)
