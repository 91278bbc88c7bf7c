-- `setup::flat` meets its contract. Assumes nothing.
use Rattle.walk.specs.Skip.{flat_of}
use Rattle.setup.proofs.flat.Goals as goal

pub returns : goal.returns
unfolding flat_of
returns c = cc
