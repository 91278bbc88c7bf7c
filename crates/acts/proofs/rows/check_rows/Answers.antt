-- `acts::rows::check_rows` meets its contract. The invariant: what is left to check says what all says.
-- Assumes nothing.
use mathlib.Core.Path.{◌≡◌, refl}
use mathlib.Core.Bool.{not}
use Prim.Native.Nat.{◌-◌, ◌+◌, ◌*◌, ◌<◌}
use native.Mathlib.Omega.{arith}
use lib.ListN.{length, get_or}
use lib.IntN.{pos, ◌+ℤ◌}
use Rattle.panel.specs.Refusals.{sum_over}
use Rattle.panel.specs.Signed.{in_i32}
use Rattle.acts.specs.Acts.{delta_of}
use Rattle.acts.proofs.Laws.{row_below, row_leaves, row_stays, rows_turn, rows_end, check_goes, check_stops, check_ends}
use Rattle.acts.proofs.Signs.{told}
use Rattle.acts.proofs.rows.check_rows.Goals as goal
use Rattle.acts.proofs.rows.check_rows.Goals.{After-leaves, In-loop-y}

-- the row's tile is lent
below : (c : In-loop-y) → c.args.rows.first +
    (c.loop-y.y - c.args.rows.top) * c.args.rows.width < length
    c.args.backs.now
below c =
    row_below c.args.rows (length c.args.backs.now) c.loop-y.y c.requires c.loop-y.auto.y c.loop-y-test.true

pub overflow_sub-t : goal.overflow_sub-t
overflow_sub-t c = omega (arith, c.loop-y.auto.y, c.requires.below_top)

pub overflow_mul-t : goal.overflow_mul-t
overflow_mul-t c = omega (arith, below (goal.at.overflow_mul-t c).In-loop-y, c.requires.few)

pub overflow_add-t : goal.overflow_add-t
overflow_add-t c = omega (arith, below (goal.at.overflow_add-t c).In-loop-y, c.requires.few)

pub overflow_cast-t : goal.overflow_cast-t
overflow_cast-t c = omega (arith, below (goal.at.overflow_cast-t c).In-loop-y, c.requires.few)

pub offset_bounds-backs-t : goal.offset_bounds-backs-t
offset_bounds-backs-t c = omega (arith, below (goal.at.offset_bounds-backs-t c).In-loop-y, c.requires.few)

pub bounds-backs-t : goal.bounds-backs-t
bounds-backs-t c = below (goal.at.bounds-backs-t c).In-loop-y

-- what `leaves` says of the backdrop itself
said : (c : After-leaves) → c.leaves.result ≡ not
    (in_i32 (get_or c.args.backs.now
    (c.args.rows.first +
    (c.loop-y.y - c.args.rows.top) * c.args.rows.width) (pos 0) +ℤ delta_of c.args.up))
said c =
    told (get_or c.args.backs.now (c.args.rows.first + (c.loop-y.y - c.args.rows.top) * c.args.rows.width) (pos 0))
    (delta_of c.args.up) _ c.leaves-arg-1.given c.leaves.ensures

pub returns-then-leaves : goal.returns-then-leaves
returns-then-leaves c =
    check_stops _ _ _ _ (rows_turn _ _ _ c.loop-y.y _ c.loop-y-test.true) _ _ _ _ c.loop-y.invariant
    (row_leaves _ _ _ _ _ (said (goal.at.returns-then-leaves c).After-leaves) c.if-leaves.true) sum_over refl

pub loop-y-preserved : goal.loop-y-preserved
loop-y-preserved c =
    check_goes _ _ _ _ (rows_turn _ _ _ c.loop-y.y _ c.loop-y-test.true) _ _ _ _ c.loop-y.invariant
    (row_stays _ _ _ _ _ (said (goal.at.loop-y-preserved c).After-leaves) c.if-leaves.false) refl

pub returns : goal.returns
returns c = check_ends _ _ _ _ _ (rows_end _ _ _ c.loop-y.y _ c.loop-y-test.false) c.loop-y.invariant
