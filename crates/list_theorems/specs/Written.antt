-- What the theorems say of a list written. docs/THEOREMS.md, "Lists written". Definitions only.
use Rattle.std.specs.Prelude.{◌≡◌, true, List, ℕ, ◌*◌, ◌/◌, ◌%◌, ◌≤◌, ◌<◌, ℤ, length, Float}
use Rattle.lists.specs.Run.{All}
use Rattle.panel.specs.Widths.{segment_floats}
use Rattle.panel.specs.Segments.{segment_at, Straight}
use Rattle.panel.specs.Answer.{Done}
use Rattle.panel.specs.Verdict.{Fine}
use Rattle.panel.specs.Signed.{in_i32}
use Rattle.sides.specs.Tile.{tile_width, tile_height}
use Rattle.screen_tile.specs.Tile.{tile_trace, ends_at}
use Rattle.fine.specs.Fine.{shown, fine_of}
use Rattle.pairs.specs.Pairs.{Tables, tile_pairs}
use Rattle.lay_pairs.specs.Layout.{own_words}
use Rattle.write_lists.specs.Lists.{left, write_lists_of}
use Rattle.list_theorems.specs.Painted.{painted, screen_of}
use Rattle.list_theorems.specs.Traced.{list_trace}

-- ---- the premises

-- the writer was done: of the words ws it made `words`
abbrev pub Wrote : Tables → (cols rows room : ℕ) → List ℕ → List ℕ → Type 0
Wrote s cols rows room ws words = write_lists_of s cols rows room ws ≡ left Done words

-- whole segments are lent, and they fill the room that the writer was told with segments that a fill takes
pub record Fills (room : ℕ) (segments : List Float) : Type 0 where
  pub whole : length segments % segment_floats ≡ 0
  pub enough : room ≤ length segments / segment_floats
  pub straight : (k : ℕ) → k < room → Straight (segment_at segments k)

-- backdrops are i32, as all that are lent are
abbrev pub AllI32 : List ℤ → Type 0
AllI32 bs = All (λ b. in_i32 b ≡ true) bs

-- the pixels lent hold a screen of so many tiles
pub record Holds (width cols rows : ℕ) (pixels : List ℕ) : Type 0 where
  pub wide : tile_width * cols ≤ width
  pub high : width * (tile_height * rows) ≤ length pixels

-- ---- what follows

-- a screen tile's commands are its pairs in painting order, with JUMPs between regions, and then END
abbrev pub PairsInOrder : Tables → (cols rows : ℕ) → List ℕ → List Float → Type 0
PairsInOrder s cols rows words segments = (t : ℕ) → t < cols * rows → tile_trace words segments t ≡ list_trace own_words (tile_pairs s cols t)

-- no screen tile is refused: not for 13, 14, 15 or 20
abbrev pub NeverRefused : (cols rows : ℕ) → List ℕ → List Float → Type 0
NeverRefused cols rows words segments = (t : ℕ) → t < cols * rows → ends_at words segments t ≡ Fine

-- fine over all screen tiles is done, and leaves the pixels of the paths painted one after another
abbrev pub LikePainted : Tables → (cols rows : ℕ) → List ℕ → List Float → Type 0
LikePainted s cols rows words segments =
    (width : ℕ) (pixels : List ℕ) → Holds width cols rows pixels
    → fine_of words segments width cols rows 0 (cols * rows) pixels ≡ shown Done (screen_of (painted s segments) width cols rows pixels)
