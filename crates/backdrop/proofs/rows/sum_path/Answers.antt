-- `backdrop::rows::sum_path` meets its contract. The loop's invariant: the rows left fit, and their sums are those of all of them.
-- Assumes nothing.
use mathlib.Core.Path.{◌≡◌, sym, ◌∙◌}
use Prim.Native.Nat.{◌-◌, ◌+◌}
use native.Mathlib.Omega.{arith}
use lib.IntN.{pos}
use Rattle.panel.specs.Paths.{width_of, height_of}
use Rattle.panel.proofs.BoolLaws.{both}
use Rattle.backdrop.specs.Backdrop.{row_fits, row_sums, rows_fit}
use Rattle.backdrop.proofs.RowLaws.{rows_fit_turn, next_fits, rows_turn, rows_end, rows_left, length_row}
use Rattle.backdrop.proofs.rows.sum_path.Goals as goal

pub sum_row-requires : goal.sum_row-requires
sum_row-requires c =
    let l = c.loop-y in
    let bs = l.backdrops in
    let p = c.args.p in
    let left = rows_left bs (width_of p) (height_of p) l._y l.at (omega arith) in
    let wide : l.at + width_of p - l.at ≡ width_of p = omega arith in
    let fine = both (row_fits (width_of p) l.at (pos 0) bs) (rows_fit (height_of p - (l._y + 1)) (width_of p) (l.at + width_of p) bs)
    (sym (rows_fit_turn bs (width_of p) (height_of p) l._y l.at (omega arith)) ∙ l.invariant.2) in
    (omega arith, omega (arith, left), rw wide fine.0)

pub loop-y-preserved : goal.loop-y-preserved
loop-y-preserved c =
    let l = c.loop-y in
    let bs = l.backdrops in
    let p = c.args.p in
    let left = rows_left bs (width_of p) (height_of p) l._y l.at (omega arith) in
    let wide : l.at + width_of p - l.at ≡ width_of p = omega arith in
    let fine = both (row_fits (width_of p) l.at (pos 0) bs) (rows_fit (height_of p - (l._y + 1)) (width_of p) (l.at + width_of p) bs)
    (sym (rows_fit_turn bs (width_of p) (height_of p) l._y l.at (omega arith)) ∙ l.invariant.2) in
    let after : c.sum_row.new.backdrops ≡ row_sums (width_of p) l.at (pos 0) bs = c.sum_row.ensures ∙ rw wide in
    let len = length_row (width_of p) l.at (pos 0) bs in
    rw after (
      omega (arith, left, len),
      len ∙ l.invariant.1,
      next_fits bs (width_of p) (height_of p) l._y l.at ∙ fine.1,
      sym
          (rows_turn bs (width_of p) (height_of p) l._y l.at (omega arith)) ∙ l.invariant.3,
    )

pub returns : goal.returns
returns c =
    let l = c.loop-y in
    let p = c.args.p in
    sym (rows_end l.backdrops (width_of p) (height_of p) l._y l.at (omega arith)) ∙ l.invariant.3
