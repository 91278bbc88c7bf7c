-- A band of the screen: refusals 1, 2 and 16, then the tiles of its rows in order, on pixels of its own, up to the first that is refused.
-- docs/RULES.md, "Bands". Definitions only.
use Rattle.std.specs.Prelude.{◌≡◌, List, [], ◌∷◌, ℕ, ◌+◌, ◌-◌, ◌*◌, ◌/◌, ◌%◌, eqb, leb, length, Float}
use Rattle.lists.specs.Run.{Step, Ran, run}
use Rattle.lists.specs.Sums as Numbers
use Rattle.panel.specs.Checks.{Check, check, first_no}
use Rattle.panel.specs.Limits.{most_tiles}
use Rattle.panel.specs.Refusals.{not_whole, too_many, bad_screen}
use Rattle.panel.specs.Widths.{segment_floats}
use Rattle.panel.specs.Answer.{Answer}
use Rattle.sides.specs.Tile.{tile_width, tile_height}
use Rattle.screen_tile.specs.Tile.{ends_at, tile_pixels}
use Rattle.fine.specs.Fine.{Shown, shown, shown_of, No, on_end, unless_no}

-- of so many floats of segments and so many pixels of the band: 1 of its rows, 2 of the whole screen, 16 of its width and the band's rows
abbrev pub band_checks : ℕ → ℕ → ℕ → ℕ → ℕ → ℕ → ℕ → List Check
band_checks segments width cols rows first end pixels =
    check (eqb (segments % segment_floats) 0) not_whole
    ∷ check (leb first end) not_whole
    ∷ check (leb end rows) not_whole
    ∷ check (leb (cols * rows) most_tiles) too_many
    ∷ check (leb (tile_width * cols) width) bad_screen
    ∷ check (leb (width * (tile_height * (end - first))) pixels) bad_screen
    ∷ []

-- the band's tile k, cols to a row of tiles, is the screen's tile base + k, whose list it has
unfoldable pub band_step : List ℕ → List Float → ℕ → ℕ → ℕ → ℕ → List ℕ → Step (List ℕ) No
band_step words segments width cols base k pixels =
    on_end (ends_at words segments (base + k)) (base + k) (tile_pixels words segments (base + k) width (k % cols) (k / cols) pixels)

-- the band's tiles from `from` up to `to`
unfoldable pub band_tiles : List ℕ → List Float → ℕ → ℕ → ℕ → ℕ → ℕ → List ℕ → Ran (List ℕ) No
band_tiles words segments width cols base from to pixels = run (band_step words segments width cols base) (Numbers.from from (to - from)) pixels

unfoldable pub band_of : List ℕ → List Float → ℕ → ℕ → ℕ → ℕ → ℕ → List ℕ → Shown
band_of words segments width cols rows first end pixels =
    unless_no (first_no (band_checks (length segments) width cols rows first end (length pixels))) pixels
    (shown_of (band_tiles words segments width cols (cols * first) 0 (cols * (end - first)) pixels))

-- the call's promise: the answer r and the band's pixels afterwards are these
abbrev pub BandMet : List ℕ → List Float → ℕ → ℕ → ℕ → ℕ → ℕ → (pixels : List ℕ) → Answer → (pixels' : List ℕ) → Type 0
BandMet words segments width cols rows first end pixels r pixels' = shown r pixels' ≡ band_of words segments width cols rows first end pixels
