-- `clip::last_step` meets its contract. Assumes nothing.
use Rattle.clip.specs.Clip.{last_step_of}
use Rattle.clip.proofs.last_step.Goals as goal

pub returns-then-w-bottom : goal.returns-then-w-bottom
unfolding last_step_of
returns-then-w-bottom c = rw (c.if-w-bottom.true, c.row_step.ensures)

pub returns-else-w-bottom : goal.returns-else-w-bottom
unfolding last_step_of
returns-else-w-bottom c = rw c.if-w-bottom.false
