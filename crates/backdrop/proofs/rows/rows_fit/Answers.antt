-- `backdrop::rows::rows_fit` meets its contract. The loop's invariant: the rows left fit as all of them do.
-- Assumes nothing.
use mathlib.Core.Path.{◌≡◌, sym, ◌∙◌}
use Prim.Native.Nat.{◌-◌, ◌+◌}
use native.Mathlib.Omega.{arith}
use lib.IntN.{pos}
use Rattle.backdrop.specs.Backdrop.{row_fits}
use Rattle.backdrop.proofs.RowLaws.{rows_fit_turn, rows_fit_end, rows_left}
use Rattle.backdrop.proofs.rows.rows_fit.Goals as goal

pub returns-then-not-row_fits : goal.returns-then-not-row_fits
returns-then-not-row_fits c =
    let l = c.loop-y in
    let a = c.args in
    let bs = a.backdrops.now in
    let left = rows_left bs a.width a.height l._y l.at (omega arith) in
    let wide : l.at + a.width - l.at ≡ a.width = omega arith in
    let row : c.row_fits.result ≡ row_fits a.width l.at (pos 0) bs = c.row_fits.ensures ∙ rw wide in
    let none = sym row ∙ c.if-not-row_fits.true in
    sym (rw none at (rows_fit_turn bs a.width a.height l._y l.at (omega arith))) ∙ l.invariant.1

pub loop-y-preserved : goal.loop-y-preserved
loop-y-preserved c =
    let l = c.loop-y in
    let a = c.args in
    let bs = a.backdrops.now in
    let left = rows_left bs a.width a.height l._y l.at (omega arith) in
    let wide : l.at + a.width - l.at ≡ a.width = omega arith in
    let row : c.row_fits.result ≡ row_fits a.width l.at (pos 0) bs = c.row_fits.ensures ∙ rw wide in
    let fine = sym row ∙ c.if-not-row_fits.false in
    (omega (arith, left), sym (rw fine at (rows_fit_turn bs a.width a.height l._y l.at (omega arith))) ∙ l.invariant.1)

pub returns : goal.returns
returns c =
    let l = c.loop-y in
    let a = c.args in
    sym (rows_fit_end a.backdrops.now a.width a.height l._y l.at (omega arith)) ∙ l.invariant.1
