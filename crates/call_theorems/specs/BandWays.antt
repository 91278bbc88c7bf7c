-- Exact at the call: the ways in which a band of the screen ends. Definitions only.
use Rattle.std.specs.Prelude.{◌≡◌, List, ℕ, ◌+◌, ◌-◌, ◌*◌, ◌<◌, length, Float}
use Rattle.lists.specs.Run.{done}
use Rattle.panel.specs.Limits.{most_commands}
use Rattle.panel.specs.Checks.{Check, first_no}
use Rattle.panel.specs.Answer.{Answer, Done, Refused}
use Rattle.panel.specs.Verdict.{Fine}
use Rattle.commands.specs.Numbers.{start_of}
use Rattle.bands.specs.Bands.{band_checks, band_tiles}
use Rattle.theorems.specs.Refusing.{RowWhy}
use Rattle.theorems.specs.Commands.{TraceWhy}

abbrev pub band_row : List Float → (width cols rows first end : ℕ) → List ℕ → List Check
band_row segs width cols rows first end pixels = band_checks (length segs) width cols rows first end (length pixels)

pub data BandWay (words : List ℕ) (segs : List Float) (width cols rows first end : ℕ) (pixels : List ℕ) (x : Answer) (pixels' : List ℕ) : Type 0 where
  -- 1, 2, 16: nothing changes
  band_refused : (n : ℕ) → x ≡ Refused n 0 → RowWhy n (band_row segs width cols rows first end pixels) → pixels' ≡ pixels
      → BandWay words segs width cols rows first end pixels x pixels'
  -- the band's tile k is refused by its commands, the first, and told by its number on the screen: those before it are shown
  tile_refused : (n k : ℕ) → x ≡ Refused n (cols * first + k) → first_no (band_row segs width cols rows first end pixels) ≡ Fine → k < cols * (end - first)
      → band_tiles words segs width cols (cols * first) 0 k pixels ≡ done pixels' → TraceWhy most_commands words segs (start_of (cols * first + k)) n
      → BandWay words segs width cols rows first end pixels x pixels'
  -- all are shown
  band_shown : x ≡ Done → first_no (band_row segs width cols rows first end pixels) ≡ Fine
      → band_tiles words segs width cols (cols * first) 0 (cols * (end - first)) pixels ≡ done pixels'
      → BandWay words segs width cols rows first end pixels x pixels'
