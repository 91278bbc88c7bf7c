-- `walk::step::z_at` meets its contract. Assumes nothing.
use Rattle.walk.specs.Step.{z_at}
use Rattle.walk.proofs.step.z_at.Goals as goal

pub returns : goal.returns
unfolding z_at
returns c = cc
