-- `clip::all_left` meets its contract. Assumes nothing.
use Rattle.clip.specs.Clip.{left_of}
use Rattle.clip.proofs.all_left.Goals as goal

pub returns : goal.returns
unfolding left_of
returns c = cc
