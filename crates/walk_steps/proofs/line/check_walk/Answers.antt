-- `walk_steps::line::check_walk` meets its contract.
-- Assumes nothing.
use mathlib.Core.Path.{refl, sym, ◌∙◌, subst}
use Prim.Native.Nat.{ℕ, ◌-◌, ◌≤◌}
use native.Mathlib.Omega.{arith}
use lib.ListN.{length}
use Rattle.std.proofs.lemmas.Result.{err_from_is_err_and}
use Rattle.acts.proofs.Laws.{steps_halves, check_goes, check_stops}
use Rattle.hits.specs.Steps.{hit_at}
use Rattle.hits.specs.Notes.{note_words, Notes}
use Rattle.walk_steps.proofs.CheckLaws.{noted_end, not_fine}
use Rattle.walk_steps.proofs.line.check_walk.Goals as goal
use Rattle.walk_steps.proofs.line.check_walk.Goals.{After-noted_to-mid}

-- the middle lies in the walk
middle : (c : After-noted_to-mid) → let m = c.noted_to-mid.result in (c.args.imin ≤ m) × (m ≤ c.args.imax) × (m - c.args.imin ≤ note_words)
middle c =
    subst (λ (m : ℕ). (c.args.imin ≤ m) × (m ≤ c.args.imax) × (m - c.args.imin ≤ note_words)) (sym c.noted_to-mid.ensures) (noted_end c.args.imin c.args.imax c.requires.1)

pub note_steps-requires : goal.note_steps-requires
note_steps-requires c =
    let m = middle (goal.at.note_steps-requires c).After-noted_to-mid in (
      c.requires.0,
      λ h. omega (arith, m.1, c.requires.2 (omega (arith, h, m.1))),
      c.requires.3,
      omega (arith, m.2, c.requires.4),
      c.requires.4,
    )

pub returns-in_err-note_steps : goal.returns-in_err-note_steps
returns-in_err-note_steps c =
    let p = err_from_is_err_and c.from_residual.result c.from_residual.ensures.1 in
    let m = middle (goal.at.returns-in_err-note_steps c).After-noted_to-mid in
    rw (p.1, p.2) (
      check_stops _ _ _ _ (steps_halves (hit_at c.args.pace c.args.path) c.args.imin c.noted_to-mid.result c.args.imax m.0 m.1) _ _ _ _ refl
          c.in_err-note_steps.ensures.0 _ refl,
      λ e. absurd (not_fine _ e),
    )

pub check_steps-requires : goal.check_steps-requires
check_steps-requires c =
    let m = middle (goal.at.check_steps-requires c).After-noted_to-mid in
    (c.requires.0, λ h. c.requires.2 (omega (arith, h, m.0)))

pub returns : goal.returns
returns c =
    let n = c.in_ok-note_steps.ensures in
    let m = middle (goal.at.returns c).After-noted_to-mid in (
      c.check_steps.ensures
          ∙ check_goes _ _ _ _ (steps_halves (hit_at c.args.pace c.args.path) c.args.imin c.noted_to-mid.result c.args.imax m.0 m.1) _ _ _ _ refl n.0 refl,
      λ e. subst (λ (k : ℕ). Notes (hit_at c.args.pace c.args.path) c.args.imin (k - c.args.imin) c.note_steps.new.notes (length c.args.backs.now))
          c.noted_to-mid.ensures (n.1 refl),
    )
