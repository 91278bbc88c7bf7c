-- `walk_steps::line::write_walk` meets its contract. The steps that were noted, by their words, have the acts of the walk.
-- Assumes nothing.
use mathlib.Core.Path.{◌≡◌, refl, sym, ap, ◌∙◌, subst, subst₂}
use mathlib.Core.List.{List, ◌++◌}
use Prim.Native.Nat.{ℕ, ◌+◌, ◌-◌, ◌≤◌}
use native.Mathlib.Omega.{arith}
use lib.ListN.{length}
use Rattle.lists.specs.Run.{done}
use Rattle.acts.specs.Acts.{Act, st_of, run_acts, steps_acts, is_done, delta_of}
use Rattle.acts.proofs.Laws.{steps_halves, run_goes, run_first}
use Rattle.hits.specs.Steps.{hit_at}
use Rattle.hits.specs.Notes.{hits_by, note_words, Notes, OnTiles}
use Rattle.hits.proofs.NoteLaws.{notes_acts}
use Rattle.walk_steps.proofs.CheckLaws.{noted_end}
use Rattle.walk_steps.proofs.line.write_walk.Goals as goal
use Rattle.walk_steps.proofs.line.write_walk.Goals.{After-noted_to-mid, After-write_notes}

-- the middle lies in the walk
middle : (c : After-noted_to-mid) → let m = c.noted_to-mid.result in (c.args.imin ≤ m) × (m ≤ c.args.imax) × (m - c.args.imin ≤ note_words)
middle c =
    subst (λ (m : ℕ). (c.args.imin ≤ m) × (m ≤ c.args.imax) × (m - c.args.imin ≤ note_words)) (sym c.noted_to-mid.ensures) (noted_end c.args.imin c.args.imax c.requires.1)

-- the words up to it
notes : (c : After-noted_to-mid) →
    Notes (hit_at c.args.pace c.args.path) c.args.imin (c.noted_to-mid.result - c.args.imin) c.args.notes.now
    (length c.args.backs.now)
notes c =
    subst (λ (m : ℕ). Notes (hit_at c.args.pace c.args.path) c.args.imin (m - c.args.imin) c.args.notes.now (length c.args.backs.now)) (sym c.noted_to-mid.ensures) c.requires.7

-- by their words the steps up to it have the same acts
acts : (c : After-noted_to-mid) →
    let m = c.noted_to-mid.result in steps_acts (hit_at c.args.pace c.args.path) (m - c.args.imin) c.args.imin ≡ steps_acts
    (hits_by c.args.notes.now c.args.imin) (m - c.args.imin) c.args.imin
acts c =
    notes_acts (hit_at c.args.pace c.args.path) c.args.imin c.noted_to-mid.result c.args.notes.now
    (length c.args.backs.now) (notes c)

-- and so all of them are those by the words, then the rest
halves : (c : After-noted_to-mid) →
    let m = c.noted_to-mid.result in steps_acts (hit_at c.args.pace c.args.path) (c.args.imax - c.args.imin) c.args.imin ≡
    steps_acts (hits_by c.args.notes.now c.args.imin) (m - c.args.imin) c.args.imin ++ steps_acts (hit_at c.args.pace c.args.path) (c.args.imax - m) m
halves c =
    let m = c.noted_to-mid.result in
    steps_halves (hit_at c.args.pace c.args.path) c.args.imin m c.args.imax (middle c).0 (middle c).1
    ∙ ap (λ (xs : List Act). xs ++ steps_acts (hit_at c.args.pace c.args.path) (c.args.imax - m) m) (acts c)

pub write_notes-requires : goal.write_notes-requires
write_notes-requires c =
    let m = middle (goal.at.write_notes-requires c).After-noted_to-mid in (
      λ j h. (notes (goal.at.write_notes-requires c).After-noted_to-mid j h).below,
      c.requires.0.paired,
      m.0,
      λ h. omega (arith, m.1, c.requires.2 (omega (arith, h, m.1))),
      omega (arith, m.2, c.requires.6),
      c.requires.6,
      omega (arith, m.0, m.1, c.requires.3),
      omega (arith, m.0, m.1, c.requires.4),
      run_first _ _ _ _ (halves (goal.at.write_notes-requires c).After-noted_to-mid) _ _ c.requires.5,
    )

pub overflow_sub-at : goal.overflow_sub-at
overflow_sub-at c = (middle (goal.at.overflow_sub-at c).After-noted_to-mid).0

pub overflow_add-at : goal.overflow_add-at
overflow_add-at c =
    let the_pre = c.requires in
    omega (arith, (middle ((goal.at.overflow_add-at c).After-noted_to-mid)).1, (middle ((goal.at.overflow_add-at c).After-noted_to-mid)).0, the_pre.4)

-- what is left after them, run from there, is the walk run from the start
left : (c : After-write_notes) → let m = c.noted_to-mid.result in
    steps_acts (hit_at c.args.pace c.args.path) (c.args.imax - c.args.imin) c.args.imin ≡
    steps_acts (hits_by c.args.notes.now c.args.imin) (m - c.args.imin) c.args.imin ++ steps_acts (hit_at c.args.pace c.args.path) (c.args.imax - m) m →
    run_acts (delta_of c.args.up) c.args.line.0
    (steps_acts (hit_at c.args.pace c.args.path) (c.args.imax - m) m) (st_of c.write_notes.new.backs c.write_notes.new.counts
    c.write_notes.new.refs (c.args.made + (m - c.args.imin))) ≡ run_acts (delta_of c.args.up) c.args.line.0
    (steps_acts (hit_at c.args.pace c.args.path) (c.args.imax - c.args.imin) c.args.imin) (st_of c.args.backs.now c.args.counts.now c.args.refs.now c.args.made)
left c h = run_goes _ _ _ _ h _ _ _ _ refl c.write_notes.ensures

pub write_steps-requires : goal.write_steps-requires
write_steps-requires c =
    let m = middle (goal.at.write_steps-requires c).After-noted_to-mid in
    let w = c.write_notes in (
      subst₂ (OnTiles c.args.path) (sym w.auto.backs) (sym w.auto.counts) c.requires.0,
      m.1,
      λ h. c.requires.2 (omega (arith, h, m.0)),
      omega (arith, m.0, m.1, c.requires.3, w.auto.refs),
      omega (arith, m.0, m.1, c.requires.4),
      ap is_done (left (goal.at.write_steps-requires c).After-write_notes (halves (goal.at.write_steps-requires c).After-noted_to-mid)) ∙ c.requires.5,
    )

pub returns : goal.returns
returns c =
    let the_noted_to = c.noted_to-mid in
    let m = the_noted_to.result in
    let w = c.write_steps in
    let e : c.args.made + (c.args.imax - c.args.imin) ≡ c.args.made + (m - c.args.imin) + (c.args.imax - m) = omega (arith, (middle ((goal.at.returns c).After-noted_to-mid)).0, (middle ((goal.at.returns c).After-noted_to-mid)).1) in
    ap (λ (n : ℕ). done (st_of w.new.backs w.new.counts w.new.refs n)) e ∙ w.ensures ∙ left (goal.at.returns c).After-write_notes (halves (goal.at.returns c).After-noted_to-mid)
