-- `few_steps::undo` meets its contract. The invariant: the steps that are left are those that were taken from where all began.
-- Assumes nothing.
use mathlib.Core.Path.{sym, subst}
use Prim.Native.Nat.{◌<◌, ◌+◌, ◌-◌, ◌*◌}
use native.Mathlib.Omega.{arith}
use lib.ListN.{length}
use Rattle.acts.specs.Acts.{St}
use Rattle.few_steps.specs.Few.{step_notes, Came}
use Rattle.few_steps.proofs.Fews.{came_last, came_none}
use Rattle.few_steps.proofs.undo.Goals as goal
use Rattle.few_steps.proofs.undo.Goals.{In-loop-i}

-- its notes are in the room lent
in_room : (c : In-loop-i) → step_notes * (c.loop-i.i - 1) + 2 < length c.args.notes.now
in_room c = omega (arith, c.loop-i-test.true, c.loop-i.auto.i, c.requires.0, c.requires.2)

pub overflow_mul-k : goal.overflow_mul-k
overflow_mul-k c = omega (arith, in_room (goal.at.overflow_mul-k c).In-loop-i, c.requires.2)

pub offset_bounds-notes-k : goal.offset_bounds-notes-k
offset_bounds-notes-k c = omega (arith, in_room (goal.at.offset_bounds-notes-k c).In-loop-i, c.requires.2)

pub bounds-notes-k : goal.bounds-notes-k
bounds-notes-k c = omega (arith, in_room (goal.at.bounds-notes-k c).In-loop-i)

pub overflow_add-line : goal.overflow_add-line
overflow_add-line c = omega (arith, in_room (goal.at.overflow_add-line c).In-loop-i, c.requires.2)

pub offset_bounds-notes-k-in-loop-i : goal.offset_bounds-notes-k-in-loop-i
offset_bounds-notes-k-in-loop-i c = omega (arith, in_room (goal.at.offset_bounds-notes-k-in-loop-i c).In-loop-i, c.requires.2)

pub bounds-notes-k-in-loop-i : goal.bounds-notes-k-in-loop-i
bounds-notes-k-in-loop-i c = omega (arith, in_room (goal.at.bounds-notes-k-in-loop-i c).In-loop-i)

pub overflow_add-packed : goal.overflow_add-packed
overflow_add-packed c = omega (arith, in_room (goal.at.overflow_add-packed c).In-loop-i, c.requires.2)

pub offset_bounds-notes-k-in-loop-i-2 : goal.offset_bounds-notes-k-in-loop-i-2
offset_bounds-notes-k-in-loop-i-2 c = omega (arith, in_room (goal.at.offset_bounds-notes-k-in-loop-i-2 c).In-loop-i, c.requires.2)

pub bounds-notes-k-in-loop-i-2 : goal.bounds-notes-k-in-loop-i-2
bounds-notes-k-in-loop-i-2 c = omega (arith, in_room (goal.at.bounds-notes-k-in-loop-i-2 c).In-loop-i)

pub overflow_add-made : goal.overflow_add-made
overflow_add-made c = omega (arith, c.loop-i.auto.i, c.requires.1)

pub undo_step-requires : goal.undo_step-requires
undo_step-requires c =
    let o = c.loop-i in
    let q = came_last c.args.up c.args.notes.now o.i c.args.made c.requires.3.0 _ _ _ c.loop-i-test.true (o.invariant c.requires.3.0 c.requires.3.1) in
    (q.0, q.2)

pub loop-i-preserved : goal.loop-i-preserved
loop-i-preserved c =
    let o = c.loop-i in
    let u = c.undo_step in
    λ r h.
    let q = came_last c.args.up c.args.notes.now o.i c.args.made r _ _ _ c.loop-i-test.true (o.invariant r h) in
    subst (λ (x : St). Came c.args.up c.args.notes.now (o.i - 1) r x) (sym (u.ensures q.0 q.2)) q.1

pub returns : goal.returns
returns c =
    let o = c.loop-i in
    λ r h. came_none c.args.up c.args.notes.now o.i c.args.made r _ _ _ c.loop-i-test.false (o.invariant r h)
