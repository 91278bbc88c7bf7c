-- `clip::by_left` meets its contract. Assumes nothing.
use Rattle.clip.specs.Clip.{by_left_of}
use Rattle.clip.proofs.by_left.Goals as goal

pub returns-then-min-edge : goal.returns-then-min-edge
unfolding by_left_of
returns-then-min-edge c = rw (rw c.min.ensures at c.if-min-edge.true, c.enter.ensures, c.col_step.ensures)

pub returns-else-min-edge : goal.returns-else-min-edge
unfolding by_left_of
returns-else-min-edge c = rw (rw c.min.ensures at c.if-min-edge.false)
