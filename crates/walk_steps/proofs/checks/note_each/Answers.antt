-- `walk_steps::checks::note_each` meets its contract. The invariant: what is left to check says what all says, the z carried is that of the step
-- before, and the words noted so far are those of the steps so far.
-- Assumes nothing.
use mathlib.Core.Path.{◌≡◌, refl, sym, ◌∙◌, subst}
use Prim.Native.Nat.{ℕ, ◌<◌, ◌-◌}
use native.Mathlib.Omega.{arith}
use lib.ListN.{length}
use Rattle.std.proofs.lemmas.Result.{err_from_is_err_and}
use Rattle.panel.specs.Widths.{step_range}
use Rattle.acts.proofs.Laws.{steps_turn, steps_end, check_goes, check_stops, check_ends}
use Rattle.hits.specs.Steps.{hit_at}
use Rattle.hits.specs.Notes.{Told, Notes}
use Rattle.exact.proofs.Limits.{far}
use Rattle.walk.proofs.Counts.{in_float_lem}
use Rattle.walk.proofs.Walks.{last_z}
use Rattle.hits.proofs.NoteLaws.{notes_turn}
use Rattle.walk_steps.proofs.CheckLaws.{noted_passed, noted_against, step_noted, not_fine}
use Rattle.walk_steps.proofs.checks.note_each.Goals as goal
use Rattle.walk_steps.proofs.checks.note_each.Goals.{In-loop-i}

pub returns-then-to-from : goal.returns-then-to-from
returns-then-to-from c = (
  check_ends _ _ _ _ _ (steps_end _ c.args.from c.args.to c.if-to-from.true) refl,
  λ e j h. absurd (omega (arith, h, c.if-to-from.true)),
)

pub edges_of-edges-requires : goal.edges_of-edges-requires
edges_of-edges-requires c = c.requires.0.boxed

pub int_to_float-from : goal.int_to_float-from
int_to_float-from c =
    in_float_lem c.args.from (omega
    (arith, c.requires.1 c.if-to-from.false, c.if-to-from.false, far.steps))

pub loop-i-init : goal.loop-i-init
loop-i-init c = (c.z_at-last_z.ensures, (λ j h. absurd (omega (arith, h))), refl)

-- all steps are below the limit
few : (c : In-loop-i) → c.loop-i.i < step_range
few c = omega (arith, c.requires.1 c.if-to-from.false, c.loop-i-test.true)

pub note_step-requires : goal.note_step-requires
note_step-requires c = (c.requires.0, few (goal.at.note_step-requires c).In-loop-i, c.loop-i.invariant.0, c.requires.2, c.edges_of-edges.ensures)

pub returns-in_err-z : goal.returns-in_err-z
returns-in_err-z c =
    let p = err_from_is_err_and c.from_residual.result c.from_residual.ensures.1 in
    let v = noted_against _ _ _ _ (sym c.in_err-z.ensures) in
    rw (p.1, p.2) (
      sym v ∙ check_stops _ _ _ _ (steps_turn _ c.loop-i.i _ c.loop-i-test.true) _ _ _ _ c.loop-i.invariant.2 refl _ v,
      λ e. absurd (not_fine _ e),
    )

pub overflow_sub-notes : goal.overflow_sub-notes
overflow_sub-notes c = c.loop-i.auto.i

-- the word is in the room lent
in_room : (c : In-loop-i) → c.loop-i.i - c.args.from < length c.loop-i.notes
in_room c = omega (arith, c.loop-i-test.true, c.loop-i.auto.i, c.loop-i.auto.notes, c.requires.3)

pub offset_bounds-notes-i : goal.offset_bounds-notes-i
offset_bounds-notes-i c = omega (arith, in_room (goal.at.offset_bounds-notes-i c).In-loop-i, c.loop-i.auto.notes, c.requires.4)

pub bounds-notes-i : goal.bounds-notes-i
bounds-notes-i c = in_room (goal.at.bounds-notes-i c).In-loop-i

pub loop-i-preserved : goal.loop-i-preserved
loop-i-preserved c =
    let o = c.loop-i in
    let v = noted_passed _ _ _ _ _ (sym c.in_ok-z.ensures) in (
      v.1 ∙ sym (last_z c.args.pace o.i (few (goal.at.loop-i-preserved c).In-loop-i)),
      notes_turn (hit_at c.args.pace c.args.path) c.args.from o.i o.notes _ _ o.auto.i (in_room (goal.at.loop-i-preserved c).In-loop-i) o.invariant.1
          (subst (λ (k : ℕ). Told (hit_at c.args.pace c.args.path o.i) k (length c.args.backs.now)) (sym v.2)
          (step_noted c.args.pace c.args.path o.i _ _ _ c.requires.0 v.0)),
      check_goes _ _ _ _ (steps_turn _ o.i _ c.loop-i-test.true) _ _ _ _ o.invariant.2 refl v.0,
    )

pub returns : goal.returns
returns c =
    let o = c.loop-i in
    let e : o.i - c.args.from ≡ c.args.to - c.args.from = omega (arith, o.auto.i-end, c.if-to-from.false, c.loop-i-test.false) in (
      check_ends _ _ _ _ _ (steps_end _ o.i _ c.loop-i-test.false) o.invariant.2,
      λ f. subst (λ (n : ℕ). Notes (hit_at c.args.pace c.args.path) c.args.from n o.notes (length c.args.backs.now)) e o.invariant.1,
    )
