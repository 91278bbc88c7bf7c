-- `one_row::reach_of` meets its contract. Assumes nothing.
use Rattle.one_row.specs.Row.{reach_of}
use Rattle.one_row.proofs.reach_of.Goals as goal

pub returns : goal.returns
unfolding reach_of
returns c = cc
