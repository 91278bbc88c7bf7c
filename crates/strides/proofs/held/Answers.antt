-- `strides::held` meets its contract. Assumes nothing.
use Rattle.strides.specs.Strides.{held_of}
use Rattle.strides.proofs.held.Goals as goal

pub returns : goal.returns
unfolding held_of
returns c = cc
