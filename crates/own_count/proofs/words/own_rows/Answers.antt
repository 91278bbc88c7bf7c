-- `own_count::words::own_rows` meets its contract. The invariant: what is left from here, done, is all done from the start.
-- Assumes nothing.
use mathlib.Core.Path.{refl, ap}
use Rattle.std.proofs.lemmas.Result.{err_from_is_err_and}
use Rattle.panel.specs.Verdict.{verdict_told}
use Prim.Native.Nat.{◌+◌, ◌-◌, ◌*◌, ◌<◌}
use native.Mathlib.Omega.{arith}
use Rattle.own_count.proofs.Ran.{turn_goes, turn_stops, turn_ends}
use Rattle.acts.proofs.Laws.{row_below, rows_turn, rows_end}
use Rattle.own_count.proofs.words.own_rows.Goals as goal
use Rattle.own_count.proofs.words.own_rows.Goals.{In-loop-y}

-- the row's tile is one of those lent
below : (c : In-loop-y) → c.args.rows.first + (c.loop-y.y - c.args.rows.top) * c.args.rows.width < c.args.n
below c = row_below c.args.rows c.args.n c.loop-y.y c.requires.0 c.loop-y.auto.y
    c.loop-y-test.true

pub overflow_sub-t : goal.overflow_sub-t
overflow_sub-t c = omega (arith, c.loop-y.auto.y, c.requires.0.below_top)

pub overflow_mul-t : goal.overflow_mul-t
overflow_mul-t c = omega (arith, below (goal.at.overflow_mul-t c).In-loop-y, c.requires.0.few)

pub overflow_add-t : goal.overflow_add-t
overflow_add-t c = omega (arith, below (goal.at.overflow_add-t c).In-loop-y, c.requires.0.few)

pub overflow_cast-t : goal.overflow_cast-t
overflow_cast-t c = omega (arith, below (goal.at.overflow_cast-t c).In-loop-y, c.requires.0.few)

pub own_mark-requires : goal.own_mark-requires
own_mark-requires c = (below (goal.at.own_mark-requires c).In-loop-y, omega (arith, c.loop-y.auto.work, c.requires.1))

pub returns-in_err-own_mark : goal.returns-in_err-own_mark
returns-in_err-own_mark c =
    let p = err_from_is_err_and c.from_residual.result c.from_residual.ensures.1 in
    rw (p.1, p.2)
    (c.loop-y.invariant _ _
    (turn_stops _ _ _ _ _ _ _ 0 _ (rows_turn c.args.rows.first c.args.rows.top c.args.rows.width c.loop-y.y _ c.loop-y-test.true) c.own_mark.ensures _
    (ap verdict_told c.in_err-own_mark.was) 0))

pub loop-y-preserved : goal.loop-y-preserved
loop-y-preserved c =
    λ ws v a.
    c.loop-y.invariant ws v
    (turn_goes _ _ _ _ _ _ _ 0 _ (rows_turn c.args.rows.first c.args.rows.top c.args.rows.width c.loop-y.y _ c.loop-y-test.true) c.own_mark.ensures
    (ap verdict_told c.in_ok-own_mark.was) ws 0 0 v refl a)

pub returns : goal.returns
returns c = c.loop-y.invariant _ _ (turn_ends _ _ _ _ 0 (rows_end c.args.rows.first c.args.rows.top c.args.rows.width c.loop-y.y _ c.loop-y-test.false) refl)
