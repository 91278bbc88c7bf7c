-- `walk_steps::writes::write_notes` meets its contract. The invariant: to run what is left from here is to run all from the start.
-- Assumes nothing.
use mathlib.Core.Path.{◌≡◌, sym, ap, ◌∙◌}
use Prim.Native.Nat.{ℕ, ◌<◌, ◌-◌, ◌+◌}
use native.Mathlib.Omega.{arith}
use lib.ListN.{length}
use Rattle.lists.specs.Run.{done}
use Rattle.acts.specs.Acts.{is_done, st_of, run_acts, steps_acts, delta_of}
use Rattle.hits.specs.Notes.{hits_by}
use Rattle.acts.proofs.Laws.{steps_turn, steps_end, run_goes, run_first, run_ends}
use Rattle.walk_steps.proofs.writes.write_notes.Goals as goal
use Rattle.walk_steps.proofs.writes.write_notes.Goals.{In-loop-i}

pub loop-i-init : goal.loop-i-init
loop-i-init c =
    let e : c.args.made + (c.args.from - c.args.from) ≡ c.args.made = omega arith in
    ap (λ (n : ℕ). run_acts (delta_of c.args.up) c.args.line.0 (steps_acts (hits_by c.args.notes.now c.args.from) (c.args.to - c.args.from) c.args.from) (st_of c.args.backs.now c.args.counts.now c.args.refs.now n)) e

pub overflow_sub-k : goal.overflow_sub-k
overflow_sub-k c = c.loop-i.auto.i

-- the word is in the room lent
in_room : (c : In-loop-i) → c.loop-i.i - c.args.from < length c.args.notes.now
in_room c = omega (arith, c.loop-i-test.true, c.loop-i.auto.i, c.requires.4)

pub offset_bounds-notes-k : goal.offset_bounds-notes-k
offset_bounds-notes-k c = omega (arith, in_room (goal.at.offset_bounds-notes-k c).In-loop-i, c.requires.5)

pub bounds-notes-k : goal.bounds-notes-k
bounds-notes-k c = in_room (goal.at.bounds-notes-k c).In-loop-i

pub overflow_add-made : goal.overflow_add-made
overflow_add-made c = omega (arith, c.loop-i-test.true, c.loop-i.auto.i, c.requires.7)

pub write_noted-requires : goal.write_noted-requires
write_noted-requires c =
    let o = c.loop-i in
    let t = c.loop-i-test.true in (
      omega (arith, o.auto.backs, c.requires.0 (o.i - c.args.from) (omega (arith, t, o.auto.i))),
      o.auto.backs ∙ c.requires.1 ∙ sym o.auto.counts,
      omega (arith, t, c.requires.3 (omega (arith, t, o.auto.i))),
      omega (arith, t, o.auto.i, o.auto.refs, c.requires.6),
      omega (arith, t, o.auto.i, c.requires.7),
      run_first _ _ _ _ (steps_turn _ o.i _ t) _ _ (ap is_done o.invariant ∙ c.requires.8),
    )

pub loop-i-preserved : goal.loop-i-preserved
loop-i-preserved c =
    let o = c.loop-i in
    let w = c.write_noted in
    let e : c.args.made + (o.i + 1 - c.args.from) ≡ c.args.made + (o.i - c.args.from) + 1 = omega (arith, o.auto.i) in
    ap (λ (n : ℕ). run_acts (delta_of c.args.up) c.args.line.0 (steps_acts (hits_by c.args.notes.now c.args.from) (c.args.to - (o.i + 1)) (o.i + 1)) (st_of w.new.backs w.new.counts w.new.refs n)) e
    ∙ run_goes _ _ _ _ (steps_turn _ o.i _ c.loop-i-test.true) _ _ _ _ o.invariant w.ensures

pub returns : goal.returns
returns c =
    let o = c.loop-i in
    let e : c.args.to - c.args.from ≡ o.i - c.args.from = omega (arith, o.auto.i-end, c.requires.2, c.loop-i-test.false) in
    ap (λ (n : ℕ). done (st_of o.backs o.counts o.refs (c.args.made + n))) e ∙ run_ends _ _ _ _ _ (steps_end _ o.i _ c.loop-i-test.false) o.invariant
