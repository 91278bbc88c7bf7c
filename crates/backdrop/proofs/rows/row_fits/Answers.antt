-- `backdrop::rows::row_fits` meets its contract. The loop's invariant: the sum is an i32, and the rest of the row fits as all of it does.
-- Assumes nothing.
use mathlib.Core.Path.{◌≡◌, sym, ap, ◌∙◌}
use mathlib.Core.Bool.{true, false}
use native.Mathlib.Omega.{arith}
use lib.IntN.{◌+ℤ◌}
use mir.Syntax.{w32, w64}
use mir.Val.{SFits, to_z}
use Rattle.panel.specs.Signed.{in_i32}
use Rattle.backdrop.specs.Backdrop.{backdrop_at}
use Rattle.panel.proofs.SignLaws.{in_fits}
use Rattle.backdrop.proofs.RowLaws.{added, fits_turn, fits_end}
use Rattle.backdrop.proofs.rows.row_fits.Goals as goal

pub returns-then-not-in_i32 : goal.returns-then-not-in_i32
returns-then-not-in_i32 c =
    let l = c.loop-i in
    let bs = c.args.backdrops.now in
    let b = backdrop_at bs l.i in
    let s = to_z w64 l.sum-bits in
    let g : SFits w32 b = record { sfits = c.sum-1.given } in
    let out : in_i32 (s +ℤ b) ≡ false = ap in_i32 (sym (added s b l.invariant.0 g)) ∙ sym c.in_i32.ensures ∙ c.if-not-in_i32.true in
    sym (rw out at (fits_turn bs c.args.end l.i s (omega arith))) ∙ l.invariant.1

pub loop-i-preserved : goal.loop-i-preserved
loop-i-preserved c =
    let l = c.loop-i in
    let bs = c.args.backdrops.now in
    let b = backdrop_at bs l.i in
    let s = to_z w64 l.sum-bits in
    let g : SFits w32 b = record { sfits = c.sum-1.given } in
    let in_it : in_i32 (s +ℤ b) ≡ true = ap in_i32 (sym (added s b l.invariant.0 g)) ∙ sym c.in_i32.ensures ∙ c.if-not-in_i32.false in
    let turn = rw in_it at (fits_turn bs c.args.end l.i s (omega arith)) in
    rw (added s b l.invariant.0 g) (in_fits (s +ℤ b) in_it, sym turn ∙ l.invariant.1)

pub returns : goal.returns
returns c =
    let l = c.loop-i in
    sym (fits_end c.args.backdrops.now c.args.end l.i (to_z w64 l.sum-bits) (omega arith)) ∙ l.invariant.1
