-- The public call for a pixel's coverage: 19, then fill's own refusals, of an area that has a tile's size; then fill's own value at that pixel.
-- Definitions only.
use Rattle.std.specs.Prelude.{◌≡◌, Bool, List, ℕ, ℤ, Float}
use Rattle.panel.specs.Checks.{first_no}
use Rattle.sides.specs.Tile.{tile_size}
use Rattle.coverage.specs.Coverage.{pixel_of}
use Rattle.coverage.specs.Fill.{fill_checks}
use Rattle.pixel.specs.Place.{place_at, place_checks}
use Rattle.pixel.specs.Answers.{Paper, answered, coverage_paper, unless_no}
use Rattle.pixel.specs.Covered.{Covered}

unfoldable pub coverage_at_of : List Float → ℕ → ℕ → Bool → ℤ → Float → Float → ℕ → ℕ → Paper Float
coverage_at_of segments first n even_odd backdrop x_tile y_tile column row =
    unless_no (first_no (place_checks column row))
    (unless_no (first_no (fill_checks segments tile_size first n))
    (answered (pixel_of segments first n even_odd backdrop x_tile y_tile (place_at column row))))

-- the call's promise: the answer r is this
abbrev pub CoverageAtMet : List Float → ℕ → ℕ → Bool → ℤ → Float → Float → ℕ → ℕ → Covered → Type 0
CoverageAtMet segments first n even_odd backdrop x_tile y_tile column row r =
    coverage_paper r ≡ coverage_at_of segments first n even_odd backdrop x_tile y_tile column row
