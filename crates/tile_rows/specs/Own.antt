-- Which rows of a tile a segment has nothing for, told by the rows beside them. What the functions of src/own.rt and of the crate one_segment tell each other; no promise leans on it.
-- Definitions only.
use Rattle.std.specs.Prelude.{Bool, ◌&&◌, ◌||◌, ℕ, ◌+◌, ◌-◌, ◌%◌, eqb, leb, pos, Float}
use Rattle.std.specs.Float.{binary32}
use Rattle.std.specs.Float.Ieee.{of_int, add, sub, le}
use Rattle.std.specs.Float.Ieee.Scale.{finite}
use Rattle.util.specs.Constants.{zero, one}
use Rattle.sides.specs.Tile.{tile_height}
use Rattle.one_row.specs.declared.Way.{Way}

-- a guess is below this
abbrev pub guesses : ℕ
guesses = 32

-- the top of row yi, how far below it the segment starts, and how far below it ends
abbrev pub top_of : Float → ℕ → Float
top_of y_tile yi = add binary32 y_tile (of_int binary32 (pos yi))

abbrev pub start_of : Way → Float → ℕ → Float
start_of w y_tile yi = sub binary32 w.y (top_of y_tile yi)

abbrev pub end_of : Way → Float → ℕ → Float
end_of w y_tile yi = add binary32 (start_of w y_tile yi) w.dy

-- whether row yi lies above the segment, and whether it lies below
unfoldable pub above_of : Way → Float → ℕ → Bool
above_of w y_tile yi = le one (start_of w y_tile yi) && le one (end_of w y_tile yi)

unfoldable pub below_of : Way → Float → ℕ → Bool
below_of w y_tile yi = le (start_of w y_tile yi) zero && le (end_of w y_tile yi) zero

-- what is left of row yi below y_edge, where that is above 0; and whether it is so in no row
abbrev pub left_of : Way → Float → ℕ → Float
left_of w y_tile yi = add binary32 (sub binary32 (top_of y_tile yi) w.edge) one

unfoldable pub edgeless_of : Way → Float → Bool
edgeless_of w y_tile = (finite w.sign && finite w.edge) && le (left_of w y_tile (tile_height - 1)) zero

-- whether the rows above `from`, and those from `to` on, get nothing
unfoldable pub only_of : Way → Float → ℕ → ℕ → Bool
only_of w y_tile from to = ((leb from to && leb to tile_height) && (eqb from 0 || above_of w y_tile ((from + (tile_height - 1)) % tile_height)))
    && (eqb to tile_height || below_of w y_tile (to % tile_height))
