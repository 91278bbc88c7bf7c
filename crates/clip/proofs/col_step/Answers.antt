-- `clip::col_step` meets its contract. Assumes nothing.
use Rattle.clip.specs.Clip.{col_step_of}
use Rattle.clip.proofs.col_step.Goals as goal

pub returns : goal.returns
unfolding col_step_of
returns c = cc
