-- A pixel's coverage, as a fold over the segments: fine.rs, lines 51 to 109. specs/Page.antt has it on one page, in the file's order. Definitions
-- only.
use Rattle.std.specs.Prelude.{Bool, true, false, List, ℕ, suc, zero, ◌+◌, ℤ, Float}
use Rattle.std.specs.Float.{binary32}
use Rattle.std.specs.Float.Ieee.{of_int, sub, mul}
use Rattle.float32.specs.Meaning.{min_of, abs_of, round_of}
use Rattle.util.specs.Constants.{half, one, two}
use Rattle.lists.specs.Grid.{tabulate}
use Rattle.sides.specs.Tile.{tile_size}
use Rattle.panel.specs.Segments.{segment_at}
use Rattle.one_row.specs.Row.{step_segment}

-- the area of pixel k after the n segments from the first on, in order, from the area a
unfoldable pub area_after : List Float → ℕ → Float → Float → ℕ → ℕ → Float → Float
area_after segments first x_tile y_tile zero k a = a
area_after segments first x_tile y_tile (suc n) k a = step_segment (segment_at segments (first + n)) x_tile y_tile k (area_after segments first x_tile y_tile n k a)

-- the coverage that a summed area stands for: even_odd where the flag is true, else non-zero
unfoldable pub finish_of : Bool → Float → Float
finish_of true a = abs_of (sub binary32 a (mul binary32 two (round_of (mul binary32 half a))))
finish_of false a = min_of (abs_of a) one

-- the summed area of pixel k: it starts at the backdrop
unfoldable pub sum_of : List Float → ℕ → ℕ → ℤ → Float → Float → ℕ → Float
sum_of segments first n backdrop x_tile y_tile k = area_after segments first x_tile y_tile n k (of_int binary32 backdrop)

-- the coverage of pixel k, 16 to a row
unfoldable pub pixel_of : List Float → ℕ → ℕ → Bool → ℤ → Float → Float → ℕ → Float
pixel_of segments first n even_odd backdrop x_tile y_tile k = finish_of even_odd (sum_of segments first n backdrop x_tile y_tile k)

-- the coverage of a tile's pixels
unfoldable pub coverage_of : List Float → ℕ → ℕ → Bool → ℤ → Float → Float → List Float
coverage_of segments first n even_odd backdrop x_tile y_tile = tabulate tile_size (pixel_of segments first n even_odd backdrop x_tile y_tile)
