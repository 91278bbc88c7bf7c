-- A segment's numbers for all rows of a tile at once: a list for each number of `Row`, which has in place yi what row yi has. What the functions of
-- src/rows.rt and of the crate one_segment tell each other; no promise leans on it. Definitions only.
use Rattle.std.specs.Prelude.{Bool, ◌&&◌, List, ℕ, ◌+◌, ◌/◌, get_or, replicate, Float}
use Rattle.std.specs.Float.{nan}
use Rattle.std.specs.Float.Ieee.{eq}
use Rattle.util.specs.Constants.{zero}
use Rattle.lists.specs.Grid.{mapi, within}
use Rattle.sides.specs.Tile.{tile_width, tile_height}
use Rattle.one_row.specs.Row.{row_of, step_row}
use Rattle.one_row.specs.declared.Way.{Way}
use Rattle.one_row.specs.declared.Row.{Row}

-- so many rows are looked at by one test
abbrev pub rows_at_once : ℕ
rows_at_once = 4

-- such a list before its numbers are known
unfoldable pub no_rows : List Float
no_rows = replicate tile_height zero

-- one of row yi's numbers, whatever stood in its place; and such a list with one number of each row
abbrev pub of_row : (Row → Float) → Way → Float → ℕ → Float → Float
of_row f w y_tile yi x = f (row_of w y_tile yi)

abbrev pub column : (Row → Float) → Way → Float → List Float → List Float
column f w y_tile l = mapi (within 0 tile_height (of_row f w y_tile)) l

-- row yi, as the lists have it
abbrev pub row_in : (ys y0s y1s dys edges : List Float) → ℕ → Row
row_in ys y0s y1s dys edges yi = record { y = get_or ys yi nan; y0 = get_or y0s yi nan; y1 = get_or y1s yi nan; dy = get_or dys yi nan; edge = get_or edges yi nan }

-- the area a of pixel k, 16 to a row, after the segment that goes the way w and has these rows
unfoldable pub step_in : Way → (ys y0s y1s dys edges : List Float) → ℕ → Float → Float
step_in w ys y0s y1s dys edges k a = step_row w (row_in ys y0s y1s dys edges (k / tile_width)) k a

-- whether row yi, and whether each of the four from yi on, changes no pixel: no height, and no y_edge
abbrev pub clear_at_word : (dys edges : List Float) → ℕ → Bool
clear_at_word dys edges yi = eq (get_or dys yi nan) zero && eq (get_or edges yi nan) zero

abbrev pub four_clear : (dys edges : List Float) → ℕ → Bool
four_clear dys edges yi = ((clear_at_word dys edges yi && clear_at_word dys edges (yi + 1)) && clear_at_word dys edges (yi + 2)) && clear_at_word dys edges (yi + 3)
