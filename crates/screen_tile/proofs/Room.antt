-- The room for a tile's colours has one for each pixel. Assumes nothing.
use mathlib.Core.Path.{◌≡◌}
use lib.ListN.{length, length-replicate}
use Rattle.sides.specs.Tile.{tile_size}
use Rattle.screen_tile.specs.Tile.{clear, no_colour}

pub no_colour_length : length no_colour ≡ tile_size
unfolding no_colour
no_colour_length = length-replicate tile_size clear
