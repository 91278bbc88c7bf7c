-- `tile_rows::rows::Rows::four_clear` meets its contract. Assumes nothing.
use mathlib.Core.Path.{refl}
use Rattle.tile_rows.proofs.rows.Rows.four_clear.Goals as goal

pub returns : goal.returns
returns c = rw (c.clear.ensures, c.clear-2.ensures, c.clear-3.ensures, c.clear-4.ensures) refl
