-- The public call: refusals 1, 2 and 16, then the tiles of a range in order, up to the first that is refused. Definitions only.
use Rattle.std.specs.Prelude.{◌≡◌, List, [], ◌∷◌, ℕ, ◌-◌, ◌*◌, ◌/◌, ◌%◌, eqb, leb, length, Float}
use Rattle.lists.specs.Run.{Step, taken, halted, Ran, done, refused, run}
use Rattle.lists.specs.Sums as Numbers
use Rattle.panel.specs.Checks.{Check, check, first_no}
use Rattle.panel.specs.Kinds.{paper_of}
use Rattle.panel.specs.Limits.{most_tiles}
use Rattle.panel.specs.Refusals.{not_whole, too_many, bad_screen}
use Rattle.panel.specs.Widths.{segment_floats}
use Rattle.panel.specs.Answer.{Answer}
use Rattle.panel.specs.Answer.{Done, Refused}
use Rattle.panel.specs.Verdict.{Verdict}
use Rattle.panel.specs.Verdict.{Fine, Against}
use Rattle.sides.specs.Tile.{tile_width, tile_height}
use Rattle.screen_tile.specs.Tile.{ends_at, tile_pixels}

-- of so many floats of segments and so many pixels. 16 is over whole numbers, as long as they may be
abbrev pub fine_checks : ℕ → ℕ → ℕ → ℕ → ℕ → ℕ → ℕ → List Check
fine_checks segments width cols rows from to pixels =
    check (eqb (segments % segment_floats) 0) not_whole
    ∷ check (leb from to) not_whole
    ∷ check (leb to (cols * rows)) not_whole
    ∷ check (leb (cols * rows) most_tiles) too_many
    ∷ check (leb (tile_width * cols) width) bad_screen
    ∷ check (leb (width * (tile_height * rows)) pixels) bad_screen
    ∷ []

-- after the call: its answer on paper, and the pixels
pub record Shown : Type 0 where
  pub answer : List ℕ
  pub pixels : List ℕ

abbrev pub shown : Answer → List ℕ → Shown
shown r pixels = record { answer = paper_of r; pixels = pixels }

-- a tile refused, with the refusal's number
pub record No : Type 0 where
  pub number : ℕ
  pub tile : ℕ

-- one tile: the pixels with it put in, or its refusal
abbrev pub on_end : Verdict → ℕ → List ℕ → Step (List ℕ) No
on_end Fine t pixels = taken pixels
on_end (Against n) t pixels = halted (record { number = n; tile = t })

unfoldable pub tile_step : List ℕ → List Float → ℕ → ℕ → ℕ → List ℕ → Step (List ℕ) No
tile_step words segments width cols t pixels = on_end (ends_at words segments t) t (tile_pixels words segments t width (t % cols) (t / cols) pixels)

-- the tiles from `from` up to `to`, cols to a row of tiles
unfoldable pub tiles_of : List ℕ → List Float → ℕ → ℕ → ℕ → ℕ → List ℕ → Ran (List ℕ) No
tiles_of words segments width cols from to pixels = run (tile_step words segments width cols) (Numbers.from from (to - from)) pixels

-- what it leaves: a refusal stops before its tile
abbrev pub shown_of : Ran (List ℕ) No → Shown
shown_of (done pixels) = shown Done pixels
shown_of (refused pixels r) = shown (Refused r.number r.tile) pixels

abbrev pub unless_no : Verdict → List ℕ → Shown → Shown
unless_no Fine pixels next = next
unless_no (Against n) pixels next = shown (Refused n 0) pixels

unfoldable pub fine_of : List ℕ → List Float → ℕ → ℕ → ℕ → ℕ → ℕ → List ℕ → Shown
fine_of words segments width cols rows from to pixels =
    unless_no (first_no (fine_checks (length segments) width cols rows from to (length pixels))) pixels (shown_of (tiles_of words segments width cols from to pixels))

-- the call's promise: the answer r and the pixels afterwards are these
abbrev pub FineMet : List ℕ → List Float → ℕ → ℕ → ℕ → ℕ → ℕ → (pixels : List ℕ) → Answer → (pixels' : List ℕ) → Type 0
FineMet words segments width cols rows from to pixels r pixels' = shown r pixels' ≡ fine_of words segments width cols rows from to pixels
