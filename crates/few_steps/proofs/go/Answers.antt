-- `few_steps::go` meets its contract. The invariant: to run what is left from here is to run all from the start, the steps so far were taken from there and are noted, and what is
-- carried is what the next step's z is held against.
-- Assumes nothing.
use mathlib.Core.Path.{◌≡◌, refl, sym, ap, ◌∙◌, subst, subst₂}
use Prim.Native.Nat.{ℕ, ◌+◌, ◌-◌}
use native.Mathlib.Omega.{arith}
use Rattle.strides.specs.Strides.{LastMet}
use Rattle.strides.specs.Last.{Last}
use Rattle.strides.specs.Last.{Z, Other}
use Rattle.acts.proofs.Laws.{steps_turn, steps_end, run_goes, run_ends}
use Rattle.acts.specs.Acts.{run_acts, st_of, steps_acts, delta_of}
use Rattle.hits.specs.Steps.{hit_at}
use Rattle.hits.specs.Notes.{OnTiles}
use Rattle.few_steps.specs.Few.{TakenMet, Came, Gone}
use Rattle.few_steps.proofs.Fews.{in_range, came_more, gone, gone_so_far, gone_none}
use Rattle.few_steps.proofs.go.Goals as goal
use Rattle.few_steps.proofs.go.Goals.{After-take_step-step}

pub strides_of-g-requires : goal.strides_of-g-requires
strides_of-g-requires c = (c.requires.0.boxed, c.requires.2)

pub last_of-requires : goal.last_of-requires
last_of-requires c = in_range 0 (omega arith)

pub returns-in_default : goal.returns-in_default
returns-in_default c = gone_none _ _ _ _ _ _ _ _ _ _

pub loop-i-init : goal.loop-i-init
loop-i-init c =
    let e : c.args.made ≡ c.args.made + 0 = omega arith in
    let s = st_of c.args.backs.now c.args.counts.now c.args.refs.now c.args.made in (
      subst (λ (r : Last). LastMet c.args.pace 0 r) c.in-Some.is c.last_of.ensures,
      ap (λ (n : ℕ). st_of c.args.backs.now c.args.counts.now c.args.refs.now n) (sym e),
      ap (λ (n : ℕ). run_acts (delta_of c.args.up) c.args.line.0 (steps_acts (hit_at c.args.pace c.args.path) (c.args.n - 0) 0) (st_of c.args.backs.now c.args.counts.now c.args.refs.now n)) (sym e),
    )

pub overflow_add-at : goal.overflow_add-at
overflow_add-at c = omega (arith, c.loop-i-test.true, c.requires.4)

pub take_step-step-requires : goal.take_step-step-requires
take_step-step-requires c =
    let t = c.loop-i-test.true in
    let o = c.loop-i in (
      subst₂ (OnTiles c.args.path) (sym o.auto.backs) (sym o.auto.counts) c.requires.0,
      omega (arith, t, c.requires.1),
      c.requires.2,
      c.strides_of-g.ensures,
      o.invariant.0,
      omega (arith, t, o.auto.refs, c.requires.3),
      omega (arith, t, c.requires.4),
      o.auto.notes ∙ c.requires.5,
    )

-- what is said of a step
said : (c : After-take_step-step) (r : Last) → c.take_step-step.result ≡ r →
    let o = c.loop-i in
    let k = c.take_step-step in
    TakenMet c.args.pace c.args.path c.args.up c.args.line.0 o.i (c.args.made + o.i) o.notes o.backs o.counts o.refs
    k.new.notes k.new.backs k.new.counts k.new.refs r
said c r e =
    let o = c.loop-i in
    let k = c.take_step-step in
    subst
    (λ (x : Last).
    TakenMet c.args.pace c.args.path c.args.up c.args.line.0 o.i (c.args.made + o.i) o.notes o.backs o.counts o.refs
    k.new.notes k.new.backs k.new.counts k.new.refs x) e k.ensures

pub returns-in_default-step : goal.returns-in_default-step
returns-in_default-step c =
    let o = c.loop-i in
    let k = c.take_step-step in
    let v = said (goal.at.returns-in_default-step c).After-take_step-step Other c.in_default-step.is in
    gone_so_far _ _ _ _ _ o.i _ _ o.notes _ o.backs o.counts o.refs refl o.invariant.1 c.loop-i-test.true
    k.new.notes k.new.backs k.new.counts k.new.refs v.0 v.1 v.2 v.3

pub loop-i-preserved : goal.loop-i-preserved
loop-i-preserved c =
    let o = c.loop-i in
    let k = c.take_step-step in
    let t = c.loop-i-test.true in
    let e : c.args.made + o.i + 1 ≡ c.args.made + (o.i + 1) = omega arith in
    let v = said (goal.at.loop-i-preserved c).After-take_step-step (Z c.in-Some-step.next) c.in-Some-step.is in
    let more =
    subst
    (λ (m : ℕ).
    Came c.args.up k.new.notes (o.i + 1) (st_of c.args.backs.now c.args.counts.now c.args.refs.now c.args.made) (st_of k.new.backs k.new.counts k.new.refs m)
    × (run_acts (delta_of c.args.up) c.args.line.0 (steps_acts (hit_at c.args.pace c.args.path) (c.args.n - (o.i + 1)) (o.i + 1)) (st_of k.new.backs k.new.counts k.new.refs m)
    ≡ run_acts (delta_of c.args.up) c.args.line.0 (steps_acts (hit_at c.args.pace c.args.path) (c.args.n - 0) 0) (st_of c.args.backs.now c.args.counts.now c.args.refs.now c.args.made)))
    e (
      came_more c.args.up o.notes _ o.i v.k v.a v.p _ _ _ (omega (arith, t, c.requires.1, c.requires.5, o.auto.notes)) v.noted o.invariant.1 v.took,
      run_goes _ _ _ _ (steps_turn _ o.i _ t) _ _ _ _ o.invariant.2 v.ran,
    ) in
    (v.next, more.0, more.1)

pub returns : goal.returns
returns c =
    let o = c.loop-i in
    let e : o.i ≡ c.args.n = omega (arith, o.auto.i-end, c.loop-i-test.false) in
    subst
    (λ (r : ℕ).
    Gone c.args.pace c.args.path c.args.up c.args.line.0 c.args.n r o.notes (st_of c.args.backs.now c.args.counts.now c.args.refs.now c.args.made)
    (st_of o.backs o.counts o.refs (c.args.made + r))) e
    (gone _ _ _ _ _ o.i _ _ o.notes _ o.backs o.counts o.refs refl o.invariant.1 o.auto.i-end
    (λ g. run_ends _ _ _ _ _ (steps_end _ o.i _ c.loop-i-test.false) o.invariant.2))
