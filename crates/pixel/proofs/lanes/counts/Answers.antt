-- `pixel::lanes::counts` meets its contract. Assumes nothing.
use Rattle.pixel.specs.Shares.{counts_of}
use Rattle.pixel.proofs.lanes.counts.Goals as goal

pub returns : goal.returns
unfolding counts_of
returns c = c.pick.ensures
