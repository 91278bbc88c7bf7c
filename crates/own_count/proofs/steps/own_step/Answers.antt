-- `own_count::steps::own_step` meets its contract.
-- Assumes nothing.
use mathlib.Core.Path.{◌≡◌, sym, ◌∙◌, subst}
use native.Mathlib.Omega.{arith}
use Rattle.panel.specs.Verdict.{verdict_told}
use Rattle.exact.proofs.Limits.{far}
use Rattle.walk.specs.Step.{step_of}
use Rattle.walk.specs.Stepped.{Tile}
use Rattle.walk.proofs.Counts.{in_float_lem}
use Rattle.walk.proofs.Tiles.{step_told}
use Rattle.acts.specs.Acts.{Hit, step_acts, delta_of}
use Rattle.hits.proofs.StepLaws.{hit_off, hit_on, next_below}
use Rattle.own_count.specs.View.{Acted}
use Rattle.own_count.proofs.Ran.{acts_off}
use Rattle.own_count.proofs.steps.own_step.Goals as goal
use Rattle.own_count.proofs.steps.own_step.Goals.{In-Some}

-- the step is on its tile
fell : (c : In-Some) →
    step_of c.args.pace c.args.path c.args.i ≡ Tile c.in-Some.tile c.in-Some.x c.in-Some.field-0-2 c.in-Some.z
fell c = sym c.step_at.ensures ∙ c.in-Some.is

pub returns-in_default : goal.returns-in_default
returns-in_default c =
    acts_off _ _ _ _ _ 1 (hit_off c.args.pace c.args.path c.args.i (sym
    c.step_at.ensures ∙ c.in_default.is))

pub int_to_float-i : goal.int_to_float-i
int_to_float-i c = in_float_lem c.args.i (omega (arith, c.requires.2, far.steps))

pub crosses-marks-requires : goal.crosses-marks-requires
crosses-marks-requires c = (step_told c.args.pace c.args.path c.args.i _ _ _ _ (fell (goal.at.crosses-marks-requires c).In-Some)).within.col_most

pub own_hit-requires : goal.own_hit-requires
own_hit-requires c = (
  omega (
    arith,
    next_below c.args.pace c.args.path c.args.i _ _ _ _ (fell (goal.at.own_hit-requires c).In-Some) c.z_at-last_z.result c.crosses-marks.result c.crosses-marks.ensures,
    c.requires.0.within,
  ),
  c.requires.1,
)

pub returns : goal.returns
returns c =
    let h = hit_on c.args.pace c.args.path c.args.i _ _ _ _ (fell (goal.at.returns c).In-Some) c.z_at-last_z.result c.crosses-marks.result c.z_at-last_z.ensures c.crosses-marks.ensures in
    subst (λ (p : Hit). Acted (delta_of c.args.up) (step_acts p c.args.i) c.args.n c.args.work.now c.own_hit.new.work 1 (verdict_told c.own_hit.result)) (sym h)
    (c.own_hit.ensures c.args.i)
