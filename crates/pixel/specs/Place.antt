-- Which pixel of a tile. Definitions only.
use Rattle.std.specs.Prelude.{List, [], ◌∷◌, ℕ, ◌+◌, ltb}
use Rattle.panel.specs.Checks.{Check, check}
use Rattle.panel.specs.Refusals.{off_tile}
use Rattle.sides.specs.Tile.{tile_width, tile_height, row_start}

-- the number, among a tile's pixels, of the one in this column and row
abbrev pub place_at : ℕ → ℕ → ℕ
place_at column row = row_start row + column

-- 19 where the tile has no such column, or no such row
abbrev pub place_checks : ℕ → ℕ → List Check
place_checks column row = check (ltb column tile_width) off_tile ∷ check (ltb row tile_height) off_tile ∷ []
