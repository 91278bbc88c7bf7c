use mathlib.Core.Path.{◌≡◌}
use Prim.Native.Nat.{◌-◌}
use lib.IntN.{pos}
use mir.Syntax.{w32}
use mir.Val.{SFits}
use Rattle.backdrop.specs.Backdrop.{row_fits}
use Rattle.backdrop.proofs.rows.row_fits.Given as goal

abbrev pub invariant-loop-i : goal.invariant-loop-i
invariant-loop-i l = (SFits w32 l.sum) × (row_fits (l.end - l.i) l.i l.sum l.backdrops ≡ row_fits (l.end - l.at) l.at (pos 0) l.backdrops)
