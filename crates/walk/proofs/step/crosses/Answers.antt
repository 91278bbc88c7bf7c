-- `walk::step::crosses` meets its contract. Assumes nothing.
use Rattle.walk.proofs.step.crosses.Goals as goal

pub returns : goal.returns
returns c = cc
