-- `walk_steps::writes::write_steps` meets its contract. The invariant: to run what is left from here is to run all from the start, and the z carried is that of the step before.
-- Assumes nothing.
use mathlib.Core.Path.{◌≡◌, refl, sym, ap, ◌∙◌, subst₂}
use Prim.Native.Nat.{ℕ, ◌<◌, ◌-◌, ◌+◌}
use native.Mathlib.Omega.{arith}
use Rattle.lists.specs.Run.{done}
use Rattle.panel.specs.Widths.{step_range}
use Rattle.acts.specs.Acts.{is_done, st_of, run_acts, steps_acts, delta_of}
use Rattle.hits.specs.Steps.{hit_at}
use Rattle.acts.proofs.Laws.{steps_turn, steps_end, run_goes, run_first, run_ends}
use Rattle.hits.specs.Notes.{OnTiles}
use Rattle.exact.proofs.Limits.{far}
use Rattle.walk.proofs.Counts.{in_float_lem}
use Rattle.walk.proofs.Walks.{last_z}
use Rattle.walk_steps.proofs.writes.write_steps.Goals as goal
use Rattle.walk_steps.proofs.writes.write_steps.Goals.{In-loop-i}

pub returns-then-to-from : goal.returns-then-to-from
returns-then-to-from c =
    let the_args = c.args in
    let e : the_args.made + (the_args.to - the_args.from) ≡ the_args.made = omega (arith, c.if-to-from.true) in
    ap (λ (n : ℕ). done (st_of the_args.backs.now the_args.counts.now the_args.refs.now n)) e
    ∙ run_ends _ _ _ _ _ (steps_end _ the_args.from the_args.to c.if-to-from.true) refl

pub int_to_float-from : goal.int_to_float-from
int_to_float-from c = in_float_lem c.args.from (omega (arith, c.requires.2 c.if-to-from.false, c.if-to-from.false, far.steps))

pub loop-i-init : goal.loop-i-init
loop-i-init c =
    let a = c.args in
    let e : a.made + (a.from - a.from) ≡ a.made = omega arith in (
      c.z_at-last_z.ensures,
      ap (λ (n : ℕ). run_acts (delta_of a.up) a.line.0 (steps_acts (hit_at a.pace a.path) (a.to - a.from) a.from) (st_of a.backs.now a.counts.now a.refs.now n)) e,
    )

-- all steps are below the limit
few : (c : In-loop-i) → c.loop-i.i < step_range
few c = omega (arith, c.requires.2 c.if-to-from.false, c.loop-i-test.true)

pub overflow_sub-at : goal.overflow_sub-at
overflow_sub-at c = c.loop-i.auto.i

pub overflow_add-at : goal.overflow_add-at
overflow_add-at c = omega (arith, c.loop-i-test.true, c.loop-i.auto.i, c.requires.4)

pub write_step-last_z-requires : goal.write_step-last_z-requires
write_step-last_z-requires c =
    let o = c.loop-i in
    let t = c.loop-i-test.true in (
      subst₂ (OnTiles c.args.path) (sym o.auto.backs) (sym o.auto.counts) c.requires.0,
      few (goal.at.write_step-last_z-requires c).In-loop-i,
      o.invariant.0,
      omega (arith, t, o.auto.i, o.auto.refs, c.requires.3),
      omega (arith, t, o.auto.i, c.requires.4),
      run_first _ _ _ _ (steps_turn _ o.i _ t) _ _ (ap is_done o.invariant.1 ∙ c.requires.5),
    )

pub loop-i-preserved : goal.loop-i-preserved
loop-i-preserved c =
    let a = c.args in
    let o = c.loop-i in
    let w = c.write_step-last_z in
    let e : a.made + (o.i + 1 - a.from) ≡ a.made + (o.i - a.from) + 1 = omega (arith, o.auto.i) in (
      w.ensures.1 ∙ sym (last_z a.pace o.i (few (goal.at.loop-i-preserved c).In-loop-i)),
      ap (λ (n : ℕ). run_acts (delta_of a.up) a.line.0 (steps_acts (hit_at a.pace a.path) (a.to - (o.i + 1)) (o.i + 1)) (st_of w.new.backs w.new.counts w.new.refs n)) e
          ∙ run_goes _ _ _ _ (steps_turn _ o.i _ c.loop-i-test.true) _ _ _ _ o.invariant.1 w.ensures.0,
    )

pub returns : goal.returns
returns c =
    let o = c.loop-i in
    let e : c.args.to - c.args.from ≡ o.i - c.args.from = omega (arith, o.auto.i-end, c.requires.1, c.loop-i-test.false) in
    ap (λ (n : ℕ). done (st_of o.backs o.counts o.refs (c.args.made + n))) e ∙ run_ends _ _ _ _ _ (steps_end _ o.i _ c.loop-i-test.false) o.invariant.1
