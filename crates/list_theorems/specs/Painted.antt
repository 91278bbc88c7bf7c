-- The paths painted one after another, with no list and no commands: the colour of each pixel, and the screen's pixels. docs/THEOREMS.md, "Lists
-- written". Definitions only.
use Rattle.std.specs.Prelude.{cond, ◌&&◌, List, ℕ, ◌/◌, ◌%◌, ltb, ℤ, pos, get_or, Float}
use Rattle.util.specs.Constants.{zero, one}
use Rattle.lists.specs.Grid.{mapi}
use Rattle.lists.specs.Run.{act_all}
use Rattle.lists.specs.Sums.{from}
use Rattle.panel.specs.Paths.{path_at, path_count, tile_of}
use Rattle.panel.specs.Slots.{not32}
use Rattle.sides.specs.Tile.{tile_width, tile_height}
use Rattle.coverage.specs.Coverage.{pixel_of}
use Rattle.colours.specs.Colour.{colour_of, over_of, pack_of}
use Rattle.commands.specs.Pixel.{even_odd_of}
use Rattle.screen_rows.specs.Rows.{place_of}
use Rattle.screen_tile.specs.Tile.{clear}
use Rattle.pairs.specs.Pairs.{Tables, colour_at, rule_at, in_box, covers}

-- ---- a pixel's colour

-- pixel k of a tile with this tally, stored index and backdrop, painted over px. With segments: by the coverage that they and the backdrop give; with
-- none: whole, where the backdrop covers (not 0; under even-odd, odd)
unfoldable pub paint_tile : List Float → ℕ → (colour rule count stored : ℕ) → ℤ → List Float → List Float
paint_tile segments k colour rule count stored b px =
    cond (ltb 0 count)
    (over_of (colour_of colour) (pixel_of segments (not32 stored) count (even_odd_of rule) b zero zero k) px)
    (cond (covers (even_odd_of rule) b) (over_of (colour_of colour) one px) px)

-- path p over pixel k of the screen tile in column x and row y: nothing outside its box
unfoldable pub paint_path : Tables → List Float → (x y k : ℕ) → ℕ → List Float → List Float
paint_path s segments x y k p px =
    let path = path_at s.paths p in
    let t = tile_of path x y in
    cond (in_box path x y)
    (paint_tile segments k (colour_at s.paints p) (rule_at s.paints p) (get_or s.tally t 0) (get_or s.stored t 0) (get_or s.backdrops t (pos 0)) px)
    px

-- all paths in painting order, from no colour
unfoldable pub painted : Tables → List Float → (x y k : ℕ) → List Float
painted s segments x y k = act_all (paint_path s segments x y k) (from 0 (path_count s.paths)) clear

-- ---- the screen's pixels

-- the column and the row of tiles that the screen's pixel p lies in
abbrev pub column_of : ℕ → ℕ → ℕ
column_of width p = p % width / tile_width

abbrev pub row_of : ℕ → ℕ → ℕ
row_of width p = p / width / tile_height

-- what shows at p, by the colours of the tile in column x and row y: what there was, off the tiles
abbrev pub shows_at : (ℕ → ℕ → ℕ → List Float) → ℕ → ℕ → ℕ → ℕ → ℕ → ℕ
shows_at colour width cols rows p old =
    cond (ltb (column_of width p) cols && ltb (row_of width p) rows) (pack_of (colour (column_of width p) (row_of width p) (place_of width p))) old

unfoldable pub screen_of : (ℕ → ℕ → ℕ → List Float) → ℕ → ℕ → ℕ → List ℕ → List ℕ
screen_of colour width cols rows pixels = mapi (shows_at colour width cols rows) pixels
