-- `tile_check::tables::refs_in` meets its contract.
-- Assumes nothing.
use Rattle.tile_check.specs.Keys.{looked_at}
use Rattle.tile_check.proofs.tables.refs_in.Goals as goal

pub returns : goal.returns
unfolding looked_at
returns c = c.min.ensures
