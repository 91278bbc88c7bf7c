-- `sizes::lines::size_walk` meets its contract.
-- Assumes nothing.
use Rattle.panel.specs.Limits.{most_steps}
use Rattle.walked_lines.proofs.Lines.{left}
use Rattle.sizes.proofs.RefLaws.{size_far, size_full, size_fits}
use Rattle.sizes.proofs.lines.size_walk.Goals as goal

pub returns-then-imin-imax : goal.returns-then-imin-imax
unfolding most_steps
returns-then-imin-imax c = size_far c.args.walk c.args.path c.clip_to-clip.result c.clip_to-clip.ensures
    c.args.made c.if-imin-imax.true

pub overflow_sub-n : goal.overflow_sub-n
overflow_sub-n c = (left c.args.walk c.args.path c.clip_to-clip.result c.clip_to-clip.ensures).onward

pub returns-then-made-n : goal.returns-then-made-n
unfolding most_steps
returns-then-made-n c =
    let a = c.args in
    let k = c.clip_to-clip in
    size_full a.walk a.path k.result k.ensures a.made c.if-imin-imax.false c.if-made-n.true

pub returns : goal.returns
unfolding most_steps
returns c =
    let a = c.args in
    let k = c.clip_to-clip in
    size_fits a.walk a.path k.result k.ensures a.made c.if-imin-imax.false c.if-made-n.false
