-- `tile_rows::rows::Rows::new` meets its contract: sixteen zeros, five times. Assumes nothing.
use mathlib.Core.Path.{refl}
use Rattle.tile_rows.specs.Rows.{no_rows}
use Rattle.tile_rows.proofs.rows.Rows.new.Goals as goal

pub returns : goal.returns
unfolding no_rows
returns c = (refl, refl, refl, refl, refl)
