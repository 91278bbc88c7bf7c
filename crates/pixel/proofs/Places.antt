-- A pixel's column and row, found again from its number. Assumes nothing.
use mathlib.Core.Path.{◌≡◌}
use Prim.Native.Nat.{ℕ, ◌/◌, ◌%◌, ◌<◌}
use native.Mathlib.Omega.{arith}
use borrow.Author.Tests.{ltb-true}
use Rattle.sides.specs.Tile.{tile_width, tile_height, tile_size}
use Rattle.panel.specs.Checks.{first_no}
use Rattle.panel.proofs.CheckLaws.{all_ok}
use Rattle.panel.specs.Verdict.{Fine}
use Rattle.pixel.specs.Place.{place_at, place_checks}

pub row_again : (column row : ℕ) → column < tile_width → row ≡ place_at column row / tile_width
row_again column row h = omega arith

pub column_again : (column row : ℕ) → column < tile_width → column ≡ place_at column row % tile_width
column_again column row h = omega arith

pub place_below : (column row : ℕ) → column < tile_width → row < tile_height → place_at column row < tile_size
place_below column row h k = omega arith

-- where refusal 19 isn't given, the tile has that column and row
pub on_tile_lem : (column row : ℕ) → first_no (place_checks column row) ≡ Fine → (column < tile_width) × (row < tile_height)
on_tile_lem column row e =
    let ok = all_ok (place_checks column row) e in
    (ltb-true column tile_width ok.0, ltb-true row tile_height ok.1.0)
