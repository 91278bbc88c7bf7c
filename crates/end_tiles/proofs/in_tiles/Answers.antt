-- `end_tiles::in_tiles` meets its contract.
-- Assumes nothing.
use Rattle.panel.specs.Limits.{edge_most}
use Rattle.end_tiles.specs.Lines.{in_tiles}
use Rattle.end_tiles.proofs.in_tiles.Goals as goal

pub returns : goal.returns
unfolding in_tiles edge_most
returns c = rw (c.tile_at-2.ensures, c.tile_at.ensures)
