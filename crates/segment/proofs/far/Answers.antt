-- `segment::far` meets its contract. Assumes nothing.
use Rattle.segment.specs.Clips.{far_of}
use Rattle.segment.proofs.far.Goals as goal

pub returns : goal.returns
unfolding far_of
returns c = cc
