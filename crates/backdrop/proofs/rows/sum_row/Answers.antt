-- `backdrop::rows::sum_row` meets its contract. The loop's invariant: the rest of the row fits, and its sums are those of all of it.
-- Assumes nothing.
use mathlib.Core.Path.{sym, ◌∙◌}
use Prim.Native.Nat.{◌-◌, ◌+◌}
use native.Mathlib.Omega.{arith}
use lib.IntN.{◌+ℤ◌}
use lib.ListN.{length-set}
use mir.Syntax.{w32}
use mir.Val.{SFits, to_z}
use Rattle.panel.proofs.BoolLaws.{both}
use Rattle.panel.specs.Signed.{in_i32}
use Rattle.backdrop.specs.Backdrop.{backdrop_at, row_fits}
use Rattle.panel.proofs.SignLaws.{in_fits}
use Rattle.backdrop.proofs.RowLaws.{summed_fits, summed, fits_turn, fits_past, sums_turn, sums_end}
use Rattle.backdrop.proofs.rows.sum_row.Goals as goal

pub overflow_add-sum : goal.overflow_add-sum
overflow_add-sum c =
    let l = c.loop-i in
    let bs = l.backdrops in
    let b = backdrop_at bs l.i in
    let s = to_z w32 l.sum-bits in
    let end = c.args.end in
    let g : SFits w32 b = record { sfits = c.sum-1.given } in
    let now_fits = both (in_i32 (s +ℤ b)) (row_fits (end - (l.i + 1)) (l.i + 1) (s +ℤ b) bs) (sym (fits_turn bs end l.i s (omega arith)) ∙ l.invariant.2) in
    summed_fits s b g now_fits.0

pub loop-i-preserved : goal.loop-i-preserved
loop-i-preserved c =
    let l = c.loop-i in
    let bs = l.backdrops in
    let b = backdrop_at bs l.i in
    let s = to_z w32 l.sum-bits in
    let end = c.args.end in
    let g : SFits w32 b = record { sfits = c.sum-1.given } in
    let now_fits = both (in_i32 (s +ℤ b)) (row_fits (end - (l.i + 1)) (l.i + 1) (s +ℤ b) bs) (sym (fits_turn bs end l.i s (omega arith)) ∙ l.invariant.2) in
    rw (summed s b g now_fits.0) (
      in_fits (s +ℤ b) now_fits.0,
      length-set bs l.i (s +ℤ b) ∙ l.invariant.1,
      fits_past (end - (l.i + 1)) l.i (s +ℤ b)
          (s +ℤ b) bs ∙ now_fits.1,
      sym (sums_turn bs end l.i s (omega arith)) ∙ l.invariant.3,
    )

pub returns : goal.returns
returns c =
    let l = c.loop-i in
    sym (sums_end l.backdrops c.args.end l.i (to_z w32 l.sum-bits) (omega arith)) ∙ l.invariant.3
