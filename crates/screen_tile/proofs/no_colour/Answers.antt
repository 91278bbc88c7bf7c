-- `screen_tile::no_colour` meets its contract. Assumes nothing.
use mathlib.Core.Path.{refl}
use lib.Ieee.{of_bits}
use Rattle.screen_tile.specs.Tile.{no_colour}
use Rattle.screen_tile.proofs.no_colour.Goals as goal

pub returns : goal.returns
unfolding of_bits no_colour
returns c = refl
