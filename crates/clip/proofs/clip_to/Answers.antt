-- `clip::clip_to` meets its contract. Assumes nothing.
use Rattle.clip.specs.Clip.{clip_of}
use Rattle.clip.specs.Page.{by_parts}
use Rattle.clip.proofs.clip_to.Goals as goal

pub returns : goal.returns
unfolding clip_of
returns c = cc (by_parts _ _)
