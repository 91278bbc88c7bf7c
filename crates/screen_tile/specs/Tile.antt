-- A screen tile by its commands. Definitions only.
use Rattle.std.specs.Prelude.{List, ℕ, replicate, Float}
use Rattle.util.specs.Constants.{zero}
use Rattle.panel.specs.Limits.{most_commands}
use Rattle.panel.specs.Verdict.{Verdict}
use Rattle.panel.specs.Verdict.{Fine, Against}
use Rattle.sides.specs.Tile.{tile_size}
use Rattle.commands.specs.Numbers.{start_of}
use Rattle.commands.specs.Moves.{Trace, trace_of, end_of}
use Rattle.commands.specs.Pixel.{point, point_of}
use Rattle.screen_rows.specs.Rows.{put_tile, packed}

-- no colour, at one pixel and at each
abbrev pub clear : List Float
clear = replicate 4 zero

unfoldable pub no_colour : List (List Float)
no_colour = replicate tile_size clear

-- tile t's commands
unfoldable pub tile_trace : List ℕ → List Float → ℕ → Trace
tile_trace words segments t = trace_of most_commands words segments (start_of t)

abbrev pub ends_at : List ℕ → List Float → ℕ → Verdict
ends_at words segments t = end_of (tile_trace words segments t)

-- the colour of tile t's pixel k after them, from no area and no colour
unfoldable pub colour_at : List ℕ → List Float → ℕ → ℕ → List Float
colour_at words segments t k = (point_of segments k (tile_trace words segments t) (point zero clear)).colour

abbrev pub if_fine : Verdict → List ℕ → List ℕ → List ℕ
if_fine Fine new old = new
if_fine (Against n) new old = old

-- the screen's pixels after tile t: as they were where it is refused
unfoldable pub tile_pixels : List ℕ → List Float → ℕ → ℕ → ℕ → ℕ → List ℕ → List ℕ
tile_pixels words segments t width tx ty pixels =
    if_fine (ends_at words segments t) (put_tile (packed (colour_at words segments t) width) width tx ty pixels) pixels
