-- `clip::enter` meets its contract. Assumes nothing.
use borrow.Author.Tests.{lt-ltb, le-ltb}
use Rattle.clip.specs.Clip.{enter_of}
use Rattle.clip.proofs.enter.Goals as goal

pub returns-then-i-c : goal.returns-then-i-c
unfolding enter_of
returns-then-i-c c =
    rw (
      c.if-w.true,
      lt-ltb _ _ (rw c.to_u32-i.ensures at c.if-i-c.true),
      c.row-ymin.ensures,
      c.pick.ensures,
      c.row-ynext.ensures,
      c.z_at.ensures,
      c.to_u32-i.ensures,
    )

pub returns-then-w : goal.returns-then-w
unfolding enter_of
returns-then-w c = rw (c.if-w.true, le-ltb _ _ (rw c.to_u32-i.ensures at c.if-i-c.false))

pub returns-then-i-c-2 : goal.returns-then-i-c-2
unfolding enter_of
returns-then-i-c-2 c =
    rw (
      c.if-w.false,
      lt-ltb _ _ (rw c.to_u32-i.ensures at c.if-i-c-2.true),
      c.row-ymax.ensures,
      c.ceil.ensures,
      c.row-ynext.ensures,
      c.z_at.ensures,
      c.to_u32-i.ensures,
    )

pub returns : goal.returns
unfolding enter_of
returns c = rw (c.if-w.false, le-ltb _ _ (rw c.to_u32-i.ensures at c.if-i-c-2.false))
