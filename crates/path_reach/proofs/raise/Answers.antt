-- `path_reach::raise` meets its contract.
-- Assumes nothing.
use Rattle.path_reach.specs.Words.{raised_at}
use Rattle.path_reach.proofs.raise.Goals as goal

pub returns : goal.returns
unfolding raised_at
returns c = rw c.max.ensures
