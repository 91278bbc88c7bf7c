-- `segment::last_end` meets its contract: the line's own end at the last step, and else what `clip` ensures. Assumes nothing.
use Prim.Native.Nat.{◌<◌, ◌≤◌, ◌-◌}
use borrow.Author.Tests.{lt-ltb, le-ltb}
use native.Mathlib.Omega.{arith}
use Rattle.panel.proofs.LimitLaws.{packs}
use Rattle.segment.specs.By.{last_by}
use Rattle.segment.proofs.last_end.Goals as goal

pub overflow_add-s : goal.overflow_add-s
overflow_add-s c = omega (arith, packs.float)

pub returns-then-s-w : goal.returns-then-s-w
unfolding last_by
returns-then-s-w c =
    let last : c.args.w.k.count - 1 ≤ c.args.s.at = omega arith in
    rw (c.new.ensures, le-ltb _ _ last)

pub returns : goal.returns
unfolding last_by
returns c =
    let inside : c.args.s.at < c.args.w.k.count - 1 = omega arith in
    rw (
      c.clip.ensures,
      c.pick-x_clip.ensures,
      c.far-t1.ensures,
      lt-ltb _ _ inside,
    )
