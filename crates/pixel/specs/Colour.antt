-- The public call for a pixel's colour under a tile's list of commands: 19, then 1, then as the commands end; then the colour that they leave at that
-- pixel, packed. Definitions only.
use Rattle.std.specs.Prelude.{◌≡◌, List, [], ◌∷◌, ℕ, ◌%◌, eqb, length, Float}
use Rattle.panel.specs.Checks.{Check, check, first_no}
use Rattle.panel.specs.Refusals.{not_whole}
use Rattle.panel.specs.Widths.{segment_floats}
use Rattle.colours.specs.Colour.{pack_of}
use Rattle.screen_tile.specs.Tile.{ends_at, colour_at}
use Rattle.pixel.specs.Place.{place_at, place_checks}
use Rattle.pixel.specs.Answers.{Paper, answered, colour_paper, unless_no}
use Rattle.pixel.specs.Coloured.{Coloured}

-- of so many floats of segments
abbrev pub whole_checks : ℕ → List Check
whole_checks segments = check (eqb (segments % segment_floats) 0) not_whole ∷ []

-- tile t's pixel k under its list
unfoldable pub under_list : List ℕ → List Float → ℕ → ℕ → Paper ℕ
under_list words segments t k = unless_no (ends_at words segments t) (answered (pack_of (colour_at words segments t k)))

unfoldable pub colour_at_of : List ℕ → List Float → ℕ → ℕ → ℕ → Paper ℕ
colour_at_of words segments t column row =
    unless_no (first_no (place_checks column row)) (unless_no (first_no (whole_checks (length segments))) (under_list words segments t (place_at column row)))

-- the call's promise: the answer r is this
abbrev pub ColourAtMet : List ℕ → List Float → ℕ → ℕ → ℕ → Coloured → Type 0
ColourAtMet words segments t column row r = colour_paper r ≡ colour_at_of words segments t column row
