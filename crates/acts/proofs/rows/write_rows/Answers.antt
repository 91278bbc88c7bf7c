-- `acts::rows::write_rows` meets its contract. The invariant: to run what is left from here is to run all from the start.
-- Assumes nothing.
use mathlib.Core.Path.{◌≡◌, ap, ◌∙◌}
use mathlib.Core.Bool.{true}
use Prim.Native.Nat.{◌-◌, ◌+◌, ◌*◌, ◌<◌}
use native.Mathlib.Omega.{arith}
use lib.ListN.{length, get_or}
use lib.IntN.{pos, ◌+ℤ◌}
use Rattle.panel.specs.Signed.{in_i32}
use Rattle.acts.specs.Acts.{is_done, delta_of}
use Rattle.acts.proofs.Laws.{row_below, mark_ok, mark_done, rows_turn, rows_end, run_goes, run_first, run_ends}
use Rattle.acts.proofs.rows.write_rows.Goals as goal
use Rattle.acts.proofs.rows.write_rows.Goals.{In-loop-y}

-- the row's tile is lent
below : (c : In-loop-y) → c.args.rows.first +
    (c.loop-y.y - c.args.rows.top) * c.args.rows.width < length c.args.backs.now
below c = row_below c.args.rows (length c.args.backs.now) c.loop-y.y c.requires.0 c.loop-y.auto.y c.loop-y-test.true

-- the mark stays within i32, since all goes through
fine : (c : In-loop-y) → in_i32 (get_or c.loop-y.backs
    (c.args.rows.first + (c.loop-y.y - c.args.rows.top) * c.args.rows.width)
    (pos 0) +ℤ delta_of c.args.up) ≡ true
fine c = mark_ok _ _ _ _ _ _ _ (run_first _ _ _ _ (rows_turn _ _ _ c.loop-y.y _ c.loop-y-test.true) _ _ (ap is_done c.loop-y.invariant ∙ c.requires.1))

pub overflow_sub-t : goal.overflow_sub-t
overflow_sub-t c = omega (arith, c.loop-y.auto.y, c.requires.0.below_top)

pub overflow_mul-t : goal.overflow_mul-t
overflow_mul-t c = omega (arith, below (goal.at.overflow_mul-t c).In-loop-y, c.requires.0.few)

pub overflow_add-t : goal.overflow_add-t
overflow_add-t c = omega (arith, below (goal.at.overflow_add-t c).In-loop-y, c.requires.0.few)

pub overflow_cast-t : goal.overflow_cast-t
overflow_cast-t c = omega (arith, below (goal.at.overflow_cast-t c).In-loop-y, c.requires.0.few)

pub mark-requires : goal.mark-requires
mark-requires c = (omega (arith, below (goal.at.mark-requires c).In-loop-y, c.loop-y.auto.backs), fine (goal.at.mark-requires c).In-loop-y)

pub loop-y-preserved : goal.loop-y-preserved
loop-y-preserved c =
    run_goes _ _ _ _ (rows_turn _ _ _ c.loop-y.y _ c.loop-y-test.true) _ _ _ _ c.loop-y.invariant
    (mark_done _ _ _ _ _ _ _ _ (fine (goal.at.loop-y-preserved c).In-loop-y) c.mark.ensures)

pub returns : goal.returns
returns c = run_ends _ _ _ _ _ (rows_end _ _ _ c.loop-y.y _ c.loop-y-test.false) c.loop-y.invariant
