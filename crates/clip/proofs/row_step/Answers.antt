-- `clip::row_step` meets its contract. Assumes nothing.
use Rattle.clip.specs.Clip.{row_step_by}
use Rattle.clip.proofs.row_step.Goals as goal

pub returns : goal.returns
unfolding row_step_by
returns c = cc
