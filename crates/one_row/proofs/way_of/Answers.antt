-- `one_row::way_of` meets its contract. Assumes nothing.
use Rattle.one_row.specs.Row.{way_of}
use Rattle.one_row.proofs.way_of.Goals as goal

pub returns : goal.returns
unfolding way_of
returns c = cc
