-- `clip::first_step` meets its contract. Assumes nothing.
use Rattle.clip.specs.Clip.{first_step_of}
use Rattle.clip.proofs.first_step.Goals as goal

pub returns-then-w-top : goal.returns-then-w-top
unfolding first_step_of
returns-then-w-top c = rw (c.if-w-top.true, c.row_step.ensures)

pub returns-else-w-top : goal.returns-else-w-top
unfolding first_step_of
returns-else-w-top c = rw c.if-w-top.false
