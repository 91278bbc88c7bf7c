use mathlib.Core.Path.{◌≡◌}
use mathlib.Core.Bool.{true}
use Prim.Native.Nat.{◌-◌}
use lib.IntN.{pos}
use lib.ListN.{length}
use mir.Syntax.{w32}
use mir.Val.{SFits}
use Rattle.backdrop.specs.Backdrop.{row_fits, row_sums}
use Rattle.backdrop.proofs.rows.sum_row.Given as goal

abbrev pub invariant-loop-i : goal.invariant-loop-i
invariant-loop-i l =
    (SFits w32 l.sum) × (length l.backdrops ≡ length l.initial.backdrops) × (row_fits (l.end - l.i) l.i l.sum l.backdrops ≡ true)
    × (row_sums (l.end - l.i) l.i l.sum l.backdrops ≡ row_sums (l.end - l.at) l.at (pos 0) l.initial.backdrops)
