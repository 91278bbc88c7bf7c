-- A tile's sides in pixels, and its number of pixels. Definitions only.
use Rattle.std.specs.Prelude.{ℕ, ◌+◌, ◌*◌}

abbrev pub tile_width : ℕ
tile_width = 16

abbrev pub tile_height : ℕ
tile_height = 16

abbrev pub tile_size : ℕ
tile_size = tile_width * tile_height

-- the first pixel of the tile's row yi, and the one after its last
abbrev pub row_start : ℕ → ℕ
row_start yi = tile_width * yi

abbrev pub row_end : ℕ → ℕ
row_end yi = tile_width * yi + tile_width
