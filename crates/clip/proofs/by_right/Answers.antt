-- `clip::by_right` meets its contract. Assumes nothing.
use Rattle.clip.specs.Clip.{by_right_of}
use Rattle.clip.proofs.by_right.Goals as goal

pub returns-then-max-edge : goal.returns-then-max-edge
unfolding by_right_of
returns-then-max-edge c = rw (rw c.max.ensures at c.if-max-edge.true, c.leave.ensures, c.col_step.ensures)

pub returns-else-max-edge : goal.returns-else-max-edge
unfolding by_right_of
returns-else-max-edge c = rw (rw c.max.ensures at c.if-max-edge.false)
