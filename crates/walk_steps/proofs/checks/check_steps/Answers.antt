-- `walk_steps::checks::check_steps` meets its contract. The invariant: what is left to check says what all says, and the z carried is that of the step before.
-- Assumes nothing.
use mathlib.Core.Path.{refl, sym, ◌∙◌}
use Prim.Native.Nat.{◌<◌}
use native.Mathlib.Omega.{arith}
use Rattle.std.proofs.lemmas.Result.{err_from_is_err_and}
use Rattle.panel.specs.Widths.{step_range}
use Rattle.acts.proofs.Laws.{steps_turn, steps_end, check_goes, check_stops, check_ends}
use Rattle.exact.proofs.Limits.{far}
use Rattle.walk.proofs.Counts.{in_float_lem}
use Rattle.walk.proofs.Walks.{last_z}
use Rattle.walk_steps.proofs.CheckLaws.{seen_passed, seen_against}
use Rattle.walk_steps.proofs.checks.check_steps.Goals as goal
use Rattle.walk_steps.proofs.checks.check_steps.Goals.{In-loop-i}

pub returns-then-to-from : goal.returns-then-to-from
returns-then-to-from c = check_ends _ _ _ _ _ (steps_end _ c.args.from c.args.to c.if-to-from.true) refl

pub int_to_float-from : goal.int_to_float-from
int_to_float-from c = in_float_lem c.args.from (omega (arith, c.requires.1 c.if-to-from.false, c.if-to-from.false, far.steps))

pub loop-i-init : goal.loop-i-init
loop-i-init c = (c.z_at-last_z.ensures, refl)

-- all steps are below the limit
few : (c : In-loop-i) → c.loop-i.i < step_range
few c = omega (arith, c.requires.1 c.if-to-from.false, c.loop-i-test.true)

pub check_step-requires : goal.check_step-requires
check_step-requires c = (c.requires.0, few (c), c.loop-i.invariant.0)

pub returns-in_err-last_z : goal.returns-in_err-last_z
returns-in_err-last_z c =
    let p = err_from_is_err_and c.from_residual.result c.from_residual.ensures.1 in
    let v = seen_against _ _ _ (sym c.in_err-last_z.ensures) in
    rw (p.1, p.2) (sym v ∙ check_stops _ _ _ _ (steps_turn _ c.loop-i.i _ c.loop-i-test.true) _ _ _ _ c.loop-i.invariant.1 refl _ v)

pub loop-i-preserved : goal.loop-i-preserved
loop-i-preserved c =
    let the_args = c.args in
    let the_loop = c.loop-i in
    let v = seen_passed _ _ _ (sym c.in_ok-last_z.ensures) in (
      v.1 ∙ sym (last_z the_args.pace the_loop.i (few (goal.at.loop-i-preserved c).In-loop-i)),
      check_goes _ _ _ _ (steps_turn _ the_loop.i _ c.loop-i-test.true) _ _ _ _ the_loop.invariant.1 refl v.0,
    )

pub returns : goal.returns
returns c = check_ends _ _ _ _ _ (steps_end _ c.loop-i.i _ c.loop-i-test.false) c.loop-i.invariant.1
