-- What a caller sees of the calls for one pixel, and the same read off what their definitions say. Definitions only.
use Rattle.std.specs.Prelude.{ℕ, ◌≡◌, not, List, [], ◌∷◌, eqb, ℤ, Float}
use Rattle.pixel.specs.Answers.{Paper}
use Rattle.pixel.specs.Coverage.{coverage_at_of}
use Rattle.pixel.specs.Colour.{colour_at_of}
use Rattle.groatpocket.specs.Seen.{Seen, seen}

-- read off the paper
abbrev pub value_or : {A : Type 0} → List A → A → A
value_or [] old = old
value_or (a ∷ more) old = a

abbrev pub pixel_seen : {A : Type 0} → Paper A → A → Seen A
pixel_seen p old = seen p.number (value_or p.value old)

-- the promises: what a caller sees is what the definitions say, and what stood behind the pointer where they refuse
abbrev pub GpPixelAreaMet : List Float → (first n flag : ℕ) → ℤ → Float → Float → (column row : ℕ) (old : Float) → ℕ → Float → Type 0
GpPixelAreaMet segs first n flag backdrop x y column row old r area =
    seen r area ≡ pixel_seen (coverage_at_of segs first n (not (eqb flag 0)) backdrop x y column row) old

abbrev pub GpPixelMet : List ℕ → List Float → (t column row old : ℕ) → ℕ → ℕ → Type 0
GpPixelMet ws segs t column row old r px = seen r px ≡ pixel_seen (colour_at_of ws segs t column row) old
