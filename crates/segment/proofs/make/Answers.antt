-- `segment::make` meets its contract. Assumes nothing.
use Rattle.segment.specs.Clips.{make_of}
use Rattle.segment.proofs.make.Goals as goal

pub returns : goal.returns
unfolding make_of
returns c = cc
