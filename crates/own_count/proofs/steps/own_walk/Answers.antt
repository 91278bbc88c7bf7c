-- `own_count::steps::own_walk` meets its contract.
-- Assumes nothing.
use mathlib.Core.Path.{ap}
use Rattle.std.proofs.lemmas.Result.{err_from_is_err_and}
use Rattle.panel.specs.Verdict.{verdict_told}
use Rattle.panel.specs.Limits.{most_steps}
use Rattle.walked_lines.proofs.Lines.{left, clipped, not_far}
use Rattle.own_count.proofs.Shown.{kept_refl}
use Rattle.own_count.proofs.LineLaws.{own_far, own_full, own_refused, own_done}
use Rattle.own_count.proofs.steps.own_walk.Goals as goal

pub returns-then-imin-imax : goal.returns-then-imin-imax
unfolding most_steps
returns-then-imin-imax c = (
  (λ l. own_far l c.args.walk c.args.path c.clip_to-clip.result c.clip_to-clip.ensures c.args.n c.args.work.now c.args.made c.if-imin-imax.true),
  kept_refl _ _,
)

pub overflow_sub-k : goal.overflow_sub-k
overflow_sub-k c = (left c.args.walk c.args.path c.clip_to-clip.result c.clip_to-clip.ensures).onward

pub returns-then-made-k : goal.returns-then-made-k
unfolding most_steps
returns-then-made-k c = (
  (λ l. own_full l c.args.walk c.args.path c.clip_to-clip.result c.clip_to-clip.ensures c.args.n c.args.work.now c.args.made c.if-imin-imax.false c.if-made-k.true),
  kept_refl _ _,
)

pub own_acts-requires : goal.own_acts-requires
unfolding most_steps
own_acts-requires c = (
  c.requires.0,
  c.requires.1,
  clipped c.args.walk c.args.path c.clip_to-clip.result c.clip_to-clip.ensures c.requires.2.wide (not_far c.clip_to-clip.result.imin c.clip_to-clip.result.imax c.if-imin-imax.false),
)

pub returns-in_err-own_acts : goal.returns-in_err-own_acts
unfolding most_steps
returns-in_err-own_acts c =
    let p = err_from_is_err_and c.from_residual.result c.from_residual.ensures.1 in
    rw (p.1, p.2) (
      λ l. own_refused l c.args.walk c.args.path c.clip_to-clip.result c.clip_to-clip.ensures c.args.n c.args.work.now c.args.made c.if-imin-imax.false c.if-made-k.false _ _
          c.own_acts.ensures _ (ap verdict_told c.in_err-own_acts.was),
      c.own_acts.ensures.above,
    )

pub returns : goal.returns
unfolding most_steps
returns c = (
  λ l. own_done l c.args.walk c.args.path c.clip_to-clip.result c.clip_to-clip.ensures c.args.n c.args.work.now c.args.made c.if-imin-imax.false c.if-made-k.false _ _
      c.own_acts.ensures (ap verdict_told c.in_ok-own_acts.was),
  c.own_acts.ensures.above,
)
