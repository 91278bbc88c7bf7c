-- What a caller sees of the call for sizes, and the same read off what its definition answers. Definitions only.
use Rattle.std.specs.Prelude.{ℕ, ◌≡◌, List, Float}
use Rattle.panel.specs.Refusals.{done_no}
use Rattle.sizes.specs.Sizes.{sizes_of}
use Rattle.sizes.specs.Measured.{Measured}
use Rattle.sizes.specs.Measured.{Done, Refused}

abbrev pub number_on : Measured → ℕ
number_on (Done r) = done_no
number_on (Refused n item) = n

-- what is needed: 0 where it is refused
abbrev pub tiles_on : Measured → ℕ
tiles_on (Done r) = r.tiles
tiles_on (Refused n item) = 0

abbrev pub made_on : Measured → ℕ
made_on (Done r) = r.refs
made_on (Refused n item) = 0

abbrev pub words_on : Measured → ℕ
words_on (Done r) = r.words
words_on (Refused n item) = 0

abbrev pub item_on : Measured → ℕ
item_on (Done r) = 0
item_on (Refused n item) = item

-- the number; tiles, references, command words; the item's
pub record SizesSeen : Type 0 where
  pub number : ℕ
  pub tiles : ℕ
  pub made : ℕ
  pub words : ℕ
  pub item : ℕ

abbrev pub sizes_told : (number tiles made words item : ℕ) → SizesSeen
sizes_told n t m w i = record { number = n; tiles = t; made = m; words = w; item = i }

abbrev pub sizes_seen : Measured → SizesSeen
sizes_seen a = sizes_told (number_on a) (tiles_on a) (made_on a) (words_on a) (item_on a)

-- the call's promise: what a caller sees is what the definition answers
abbrev pub GpSizesMet : (nos : List ℕ) (coords : List Float) (paths : List ℕ) (cols rows : ℕ) → (r tiles made words item : ℕ) → Type 0
GpSizesMet nos coords paths cols rows r tiles made words item = sizes_told r tiles made words item ≡ sizes_seen (sizes_of nos coords paths cols rows)
