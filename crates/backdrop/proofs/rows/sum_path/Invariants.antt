use mathlib.Core.Path.{◌≡◌}
use mathlib.Core.Bool.{true}
use Prim.Native.Nat.{◌≤◌, ◌-◌, ◌+◌, ◌*◌}
use lib.ListN.{length}
use Rattle.backdrop.specs.Backdrop.{rows_fit, rows_sums}
use Rattle.backdrop.proofs.rows.sum_path.Given as goal

abbrev pub invariant-loop-y : goal.invariant-loop-y
invariant-loop-y l =
    (l.at + (l.height - l._y) * l.width ≤ length l.backdrops) × (length l.backdrops ≡ length l.initial.backdrops) × (rows_fit (l.height - l._y) l.width l.at l.backdrops ≡ true)
    × (rows_sums (l.height - l._y) l.width l.at l.backdrops ≡ rows_sums l.height l.width l.initial.at l.initial.backdrops)
