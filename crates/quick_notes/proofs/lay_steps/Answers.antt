-- `quick_notes::lay_steps` meets its contract. The invariant: if all steps so far were good, what is carried is what the next step's z is held against,
-- and the words noted so far are those of the steps so far.
-- Assumes nothing.
use mathlib.Core.Path.{◌≡◌, subst}
use Prim.Native.Nat.{ℕ, ◌<◌, ◌-◌}
use native.Mathlib.Omega.{arith}
use lib.ListN.{length}
use Rattle.panel.specs.Paths.{end_of}
use Rattle.panel.proofs.BoolLaws.{both}
use Rattle.hits.specs.Steps.{hit_at}
use Rattle.hits.specs.Notes.{Notes}
use Rattle.hits.proofs.NoteLaws.{notes_turn, struck_told}
use Rattle.quick_notes.proofs.lay_steps.Goals as goal
use Rattle.quick_notes.proofs.lay_steps.Goals.{In-loop-i}

pub loop-i-init : goal.loop-i-init
loop-i-init c = λ e. (c.requires.4, (λ j h. absurd (omega (arith, h))))

pub laid_at-laid-requires : goal.laid_at-laid-requires
laid_at-laid-requires c = (c.requires.0, c.requires.1, c.requires.2, omega (arith, c.loop-i-test.true, c.requires.6), c.requires.3)

pub overflow_sub-notes : goal.overflow_sub-notes
overflow_sub-notes c = c.loop-i.auto.i

-- the word is in the room lent
in_room : (c : In-loop-i) → let o = c.loop-i in o.i - c.args.from < length o.notes
in_room c =
    let o = c.loop-i in
    omega (arith, c.loop-i-test.true, o.auto.i, o.auto.notes, c.requires.7)

pub offset_bounds-notes-i : goal.offset_bounds-notes-i
offset_bounds-notes-i c = omega (arith, in_room (goal.at.offset_bounds-notes-i c).In-loop-i, c.loop-i.auto.notes, c.requires.8)

pub bounds-notes-i : goal.bounds-notes-i
bounds-notes-i c = in_room (goal.at.bounds-notes-i c).In-loop-i

pub loop-i-preserved : goal.loop-i-preserved
loop-i-preserved c =
    let o = c.loop-i in
    λ e.
    let b = both o.good _ e in
    let f = o.invariant b.0 in
    let k = c.laid_at-laid.ensures b.1 f.0 in (
      k.next,
      notes_turn (hit_at c.args.pace c.args.path) c.args.from o.i o.notes _ _ o.auto.i (in_room (goal.at.loop-i-preserved c).In-loop-i) f.1
          (struck_told c.args.pace c.args.path o.i _ _ k),
    )

pub returns : goal.returns
returns c =
    let o = c.loop-i in
    let e : o.i - c.args.from ≡ c.args.to - c.args.from = omega (arith, o.auto.i-end, c.requires.5, c.loop-i-test.false) in
    λ r. subst (λ (n : ℕ). Notes (hit_at c.args.pace c.args.path) c.args.from n o.notes (end_of c.args.path)) e (o.invariant r).1
