-- `pixel::lanes::shared` meets its contract. Assumes nothing.
use Rattle.pixel.specs.Shares.{shared_of}
use Rattle.pixel.proofs.lanes.shared.Goals as goal

pub returns : goal.returns
unfolding shared_of
returns c = c.pick.ensures
