-- `tile_check::backs::first_back` meets its contract. The invariant: those so far are ours.
-- Assumes nothing.
use mathlib.Core.Path.{◌≡◌, ap, ◌∙◌}
use mathlib.Core.Bool.{true, false, not}
use mathlib.Core.List.{List}
use Prim.Native.Nat.{ℕ, ◌+◌, ◌≤◌, ◌<◌}
use native.Mathlib.Nat.{le_refl}
use native.Mathlib.Omega.{arith}
use lib.ListN.{length, get_or}
use lib.IntN.{ℤ, pos}
use Rattle.meeting.proofs.FirstLaws.{first_is}
use Rattle.own_count.specs.View.{view_of}
use Rattle.tile_check.specs.Faults.{back_fault, first_back_fault}
use Rattle.tile_check.proofs.RoomLaws.{fine_more}
use Rattle.tile_check.proofs.BackLaws.{back_told, back_fault_lem}
use Rattle.tile_check.proofs.backs.first_back.Goals as goal
use Rattle.tile_check.proofs.backs.first_back.Goals.{After-same_back}

first_of : (backs ours : List ℤ) (r : ℕ) → r ≤ length backs → (r < length backs → back_fault backs ours r ≡ true) → ((i : ℕ) → i < r → back_fault backs ours i ≡ false)
    → r ≡ first_back_fault backs ours
unfolding first_back_fault
first_of backs ours r h e f = first_is (back_fault backs ours) (length backs) r h e f

-- whether the tile's backdrop is at fault
at : (c : After-same_back) → back_fault c.args.backs.now (view_of (length c.args.backs.now) c.args.work.now 0).backs c.loop-t.t ≡ not c.same_back.result
at c = back_fault_lem c.args.backs.now c.args.work.now c.loop-t.t c.same_back.result c.requires c.loop-t-test.true
    (back_told (get_or c.args.backs.now c.loop-t.t (pos 0)) (get_or c.args.work.now (length c.args.backs.now + c.loop-t.t) 0) c.same_back.result c.same_back-arg-1.given c.same_back.ensures)

pub returns-then-not-same_back : goal.returns-then-not-same_back
returns-then-not-same_back c =
    first_of c.args.backs.now (view_of (length c.args.backs.now) c.args.work.now 0).backs c.loop-t.t (omega (arith, c.loop-t-test.true)) (λ h. at ((goal.at.returns-then-not-same_back c).After-same_back) ∙ ap not c.if-not-same_back.true) c.loop-t.invariant

pub loop-t-preserved : goal.loop-t-preserved
loop-t-preserved c =
    fine_more (back_fault c.args.backs.now (view_of (length c.args.backs.now) c.args.work.now 0).backs) c.loop-t.t c.loop-t.invariant (at ((goal.at.loop-t-preserved c).After-same_back) ∙ ap not c.if-not-same_back.false)

pub returns : goal.returns
returns c =
    let n = length c.args.backs.now in
    let all : c.loop-t.t ≡ n = omega arith in
    first_of c.args.backs.now (view_of n c.args.work.now 0).backs n (le_refl n) (λ h. absurd (omega arith)) (rw all at c.loop-t.invariant)
