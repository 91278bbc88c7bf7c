-- `segment::first_end` meets its contract: the line's own end at step 0, and else what `clip` ensures. Assumes nothing.
use Prim.Native.Nat.{◌<◌}
use borrow.Author.Tests.{lt-ltb}
use native.Mathlib.Omega.{arith}
use Rattle.segment.specs.By.{first_by}
use Rattle.segment.proofs.first_end.Goals as goal

pub returns-then-s-eq0 : goal.returns-then-s-eq0
unfolding first_by
returns-then-s-eq0 c = rw (c.new.ensures, c.if-s-eq0.true)

pub returns : goal.returns
unfolding first_by
returns c =
    let inside : 0 < c.args.s.at = omega arith in
    rw (
      c.clip.ensures,
      c.pick-x_clip.ensures,
      c.far.ensures,
      lt-ltb 0 _ inside,
    )
