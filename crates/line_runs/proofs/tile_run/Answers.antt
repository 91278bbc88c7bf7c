-- `line_runs::tile_run` meets its contract. The loop's invariant, `Running`: what is left of the run from reference k on, on the segments and tags as
-- they are now, is what the run comes to; and what is carried is of a step of this line, or of none. Assumes nothing.
use native.Mathlib.Nat.{le_refl}
use native.Mathlib.Omega.{arith}
use mathlib.Core.Path.{refl, ap, ◌∙◌}
use borrow.Author.Tests.{eq-eqb, ne_eqb}
use Rattle.panel.specs.Verdict.{verdict_told}
use Rattle.panel.proofs.LimitLaws.{step_read}
use Rattle.walk.specs.Walked.{walked_told}
use Rattle.looks.proofs.CarryLaws.{none_carries, has_carries}
use Rattle.looks.proofs.OneLaws.{long_self}
use Rattle.line_runs.proofs.RunLaws.{turned, stopped, other, over}
use Rattle.line_runs.proofs.tile_run.Goals as goal

pub loop-k-init : goal.loop-k-init
loop-k-init c = (record { low = le_refl _; high = c.requires.3; long = long_self _; left = refl }, rw c.no_zs-zs.ensures (none_carries (walked_told c.args.found)))

pub named_at-named-requires : goal.named_at-named-requires
named_at-named-requires c = omega (arith, c.requires.4, c.loop-k-test.true)

pub shape_of-segments-then-named-line : goal.shape_of-segments-then-named-line
shape_of-segments-then-named-line c = c.loop-k.invariant.0.long.segments

pub shape_of-tags-then-named-line : goal.shape_of-tags-then-named-line
shape_of-tags-then-named-line c = c.loop-k.invariant.0.long.tags

pub returns-then-named-line : goal.returns-then-named-line
returns-then-named-line c = other _ _ _ _ _ _ _ _ _ _ _ c.loop-k.invariant.0 c.loop-k-test.true (ne_eqb _ _
    (rw c.named_at-named.ensures at c.if-named-line.true))

pub packed_at-packed-requires : goal.packed_at-packed-requires
packed_at-packed-requires c = omega (arith, c.requires.4, c.loop-k-test.true)

pub zs_on-zs-requires : goal.zs_on-zs-requires
zs_on-zs-requires c = c.loop-k.invariant.1

pub tile_one-requires : goal.tile_one-requires
tile_one-requires c =
    let p = c.requires in
    let l = c.loop-k.invariant.0.long in
    (p.0, c.zs_on-zs.ensures, omega (arith, p.1, l.segments), omega (arith, p.2, l.tags))

pub shape_of-segments-in-Err : goal.shape_of-segments-in-Err
shape_of-segments-in-Err c = c.segments-1.given
    ∙ c.loop-k.invariant.0.long.segments

pub shape_of-tags-in-Err : goal.shape_of-tags-in-Err
shape_of-tags-in-Err c = c.tags-1.given
    ∙ c.loop-k.invariant.0.long.tags

pub returns-in-Err : goal.returns-in-Err
returns-in-Err c =
    rw c.at.ensures (stopped _ _ _ _ _ _ _ _ _ _ _ c.loop-k.invariant.0 _ _ _ c.loop-k-test.true
    (eq-eqb _ _ (rw c.named_at-named.ensures at c.if-named-line.false))
    (rw c.packed_at-packed.ensures at c.tile_one.ensures) (ap verdict_told c.in-Err.is))

pub loop-k-preserved : goal.loop-k-preserved
loop-k-preserved c = (
  turned _ _ _ _ _ _ _ _ _ _ _ c.loop-k.invariant.0 _ _ c.loop-k-test.true
      (eq-eqb _ _ (rw c.named_at-named.ensures at c.if-named-line.false))
      (rw c.packed_at-packed.ensures at c.tile_one.ensures) (ap verdict_told c.in_default.is),
  has_carries (walked_told c.args.found) _ c.zs_on-zs.result (step_read c.packed_at-packed.result) c.zs_on-zs.ensures,
)

pub shape_of-segments : goal.shape_of-segments
shape_of-segments c = c.loop-k.invariant.0.long.segments

pub shape_of-tags : goal.shape_of-tags
shape_of-tags c = c.loop-k.invariant.0.long.tags

pub returns : goal.returns
returns c = over _ _ _ _ _ _ _ _ _ _ _ c.loop-k.invariant.0 c.loop-k-test.false
