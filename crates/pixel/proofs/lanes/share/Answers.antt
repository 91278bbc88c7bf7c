-- `pixel::lanes::share` meets its contract. Assumes nothing.
use Rattle.pixel.specs.Shares.{share_of}
use Rattle.pixel.proofs.lanes.share.Goals as goal

pub returns : goal.returns
unfolding share_of
returns c = cc
