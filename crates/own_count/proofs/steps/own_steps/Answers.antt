-- `own_count::steps::own_steps` meets its contract. The invariant: what is left from here, done, is all done from the start.
-- Assumes nothing.
use mathlib.Core.Path.{◌≡◌, ap}
use Rattle.std.proofs.lemmas.Result.{err_from_is_err_and}
use Rattle.panel.specs.Verdict.{verdict_told}
use Prim.Native.Nat.{ℕ, ◌+◌, ◌-◌, ◌<◌}
use native.Mathlib.Omega.{arith}
use Rattle.own_count.proofs.Ran.{turn_goes, turn_stops, turn_ends}
use Rattle.acts.proofs.Laws.{steps_turn, steps_end}
use Rattle.hits.specs.Steps.{hit_at}
use Rattle.own_count.proofs.steps.own_steps.Goals as goal

one_more : (i to : ℕ) → i < to → 1 + (to - (i + 1)) ≡ to - i
one_more i to h = omega arith

pub own_step-requires : goal.own_step-requires
own_step-requires c = (
  c.requires.0,
  omega (arith, c.loop-i.auto.work, c.requires.1),
  omega (
    arith,
    c.requires.3 (omega (arith, c.loop-i.auto.i, c.loop-i-test.true)),
    c.loop-i-test.true,
  ),
)

pub returns-in_err-own_step : goal.returns-in_err-own_step
returns-in_err-own_step c =
    let p = err_from_is_err_and c.from_residual.result c.from_residual.ensures.1 in
    rw (p.1, p.2)
    (c.loop-i.invariant _ _
    (turn_stops _ _ _ _ _ _ _ 1 _ (steps_turn (hit_at c.args.pace c.args.path) c.loop-i.i _ c.loop-i-test.true) c.own_step.ensures _ (ap verdict_told c.in_err-own_step.was) _))

pub loop-i-preserved : goal.loop-i-preserved
loop-i-preserved c =
    λ ws v a.
    c.loop-i.invariant ws v
    (turn_goes _ _ _ _ _ _ _ 1 _ (steps_turn (hit_at c.args.pace c.args.path) c.loop-i.i _ c.loop-i-test.true) c.own_step.ensures (ap verdict_told c.in_ok-own_step.was) ws _ _ v
    (one_more c.loop-i.i c.args.to c.loop-i-test.true) a)

pub returns : goal.returns
returns c = c.loop-i.invariant _ _ (turn_ends _ _ _ _ _ (steps_end (hit_at c.args.pace c.args.path) c.loop-i.i _ c.loop-i-test.false) (omega (arith, c.loop-i-test.false)))
