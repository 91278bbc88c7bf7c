-- `setup::order` meets its contract. Assumes nothing.
use Rattle.walk.specs.Setup.{ends_of}
use Rattle.setup.proofs.order.Goals as goal

pub returns : goal.returns
unfolding ends_of
returns c = cc
