-- `quick_notes::pass_steps` meets its contract. The invariant: what is left to check says what all says.
-- Assumes nothing.
use mathlib.Core.Path.{◌≡◌, refl, subst}
use mathlib.Core.Bool.{false≢true}
use Prim.Native.Nat.{ℕ, ◌<◌, ◌-◌, ◌+◌}
use native.Mathlib.Omega.{arith}
use lib.ListN.{length, get_or}
use Rattle.acts.proofs.Laws.{steps_turn, steps_end, check_goes, check_ends}
use Rattle.hits.specs.Steps.{hit_at}
use Rattle.hits.specs.Notes.{Told}
use Rattle.quick_notes.proofs.pass_steps.Goals as goal
use Rattle.quick_notes.proofs.pass_steps.Goals.{In-loop-i}

pub overflow_sub-word : goal.overflow_sub-word
overflow_sub-word c = c.loop-i.auto.i

-- the word is among those noted
in_notes : (c : In-loop-i) → c.loop-i.i - c.args.from < c.args.to - c.args.from
in_notes c = omega (arith, c.loop-i-test.true, c.loop-i.auto.i)

pub offset_bounds-notes-i : goal.offset_bounds-notes-i
offset_bounds-notes-i c = omega (arith, in_notes (goal.at.offset_bounds-notes-i c).In-loop-i, c.requires.2, c.requires.3)

pub bounds-notes-i : goal.bounds-notes-i
bounds-notes-i c = omega (arith, in_notes (goal.at.bounds-notes-i c).In-loop-i, c.requires.2)

pub pass_step-requires : goal.pass_step-requires
pass_step-requires c =
    let o = c.loop-i in
    let e : c.args.from + (o.i - c.args.from) ≡ o.i = omega (arith, o.auto.i) in (
      c.requires.0,
      subst (λ (i : ℕ). Told (hit_at c.args.pace c.args.path i) (get_or c.args.notes.now (o.i - c.args.from) 0) (length c.args.backs.now)) e
          (c.requires.5 (o.i - c.args.from) (in_notes (goal.at.pass_step-requires c).In-loop-i)),
    )

pub returns-then-not-pass_step : goal.returns-then-not-pass_step
returns-then-not-pass_step c = λ e. absurd (false≢true e)

pub loop-i-preserved : goal.loop-i-preserved
loop-i-preserved c =
    let t = c.loop-i-test.true in
    let o = c.loop-i in
    check_goes _ _ _ _ (steps_turn _ o.i _ t) _ _ _ _ o.invariant refl (c.pass_step.ensures c.if-not-pass_step.false)

pub returns : goal.returns
returns c = let o = c.loop-i in λ r. check_ends _ _ _ _ _ (steps_end _ o.i _ c.loop-i-test.false) o.invariant
