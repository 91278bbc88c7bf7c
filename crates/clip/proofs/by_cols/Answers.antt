-- `clip::by_cols` meets its contract. Assumes nothing.
use Rattle.clip.specs.Clip.{cols_of}
use Rattle.clip.proofs.by_cols.Goals as goal

pub returns-then-max-left : goal.returns-then-max-left
unfolding cols_of
returns-then-max-left c = rw (rw (c.max.ensures, c.of_u32-left.ensures) at c.if-max-left.true, c.all_left.ensures)

pub returns-else-max-left : goal.returns-else-max-left
unfolding cols_of
returns-else-max-left c =
    rw (
      rw (c.max.ensures, c.of_u32-left.ensures) at c.if-max-left.false,
      c.by_right.ensures,
      c.of_u32.ensures,
      c.by_left.ensures,
      c.of_u32-left.ensures,
    )
