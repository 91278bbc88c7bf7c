-- A screen cut into bands, one below the other, each with its own slice of the pixels; and what the whole screen shows of what they leave.
-- Definitions only.
use Rattle.std.specs.Prelude.{◌≡◌, List, [], ◌∷◌, ◌++◌, ℕ, ◌-◌, ◌*◌, ◌≤◌, length, Float}
use Rattle.panel.specs.Answer.{Done}
use Rattle.sides.specs.Tile.{tile_height}
use Rattle.fine.specs.Fine.{Shown, shown}
use Rattle.bands.specs.Bands.{band_of}

-- a band of the cut: the row of tiles that it ends before, and its own pixels
pub record Band : Type 0 where
  pub end : ℕ
  pub pixels : List ℕ

-- from row `first` on: each begins where the one above it ends and has its rows' pixels, no more and no fewer; the last ends before row `last`
abbrev pub Stacked : ℕ → ℕ → List Band → ℕ → Type 0
Stacked width first [] last = first ≡ last
Stacked width first (b ∷ more) last =
    (first ≤ b.end) × (length b.pixels ≡ width * (tile_height * (b.end - first))) × Stacked width b.end more last

-- the pixels of all of them, as they lie on the screen
abbrev pub joined : List Band → List ℕ
joined [] = []
joined (b ∷ more) = b.pixels ++ joined more

-- so many pixels more, which no band has
abbrev pub followed : Shown → List ℕ → Shown
followed s rest = record { answer = s.answer; pixels = s.pixels ++ rest }

-- a band above others: where it is done (its answer on paper is one number) the others' answer counts, and their pixels come below its own; where it
-- is refused its refusal counts, and below its pixels stand the others' as they were lent
abbrev pub above : List ℕ → List ℕ → List ℕ → Shown → Shown
above (n ∷ item ∷ more) pixels lent others = record { answer = n ∷ item ∷ more; pixels = pixels ++ lent }
above (n ∷ []) pixels lent others = record { answer = others.answer; pixels = pixels ++ others.pixels }
above [] pixels lent others = record { answer = others.answer; pixels = pixels ++ others.pixels }

-- what the screen shows of a band and those below it, each drawn by itself
abbrev pub stack_of : List ℕ → List Float → ℕ → ℕ → ℕ → ℕ → Band → List Band → Shown
stack_of words segments width cols rows first b [] = band_of words segments width cols rows first b.end b.pixels
stack_of words segments width cols rows first b (next ∷ more) =
    let s = band_of words segments width cols rows first b.end b.pixels in
    above s.answer s.pixels (joined (next ∷ more)) (stack_of words segments width cols rows b.end next more)

-- bands that are all done, from row `first` on, each with its pixels afterwards
abbrev pub AllDone : List ℕ → List Float → ℕ → ℕ → ℕ → ℕ → List Band → List (List ℕ) → Type 0
AllDone words segments width cols rows first [] [] = Unit {0}
AllDone words segments width cols rows first [] (after ∷ afters) = ⊥
AllDone words segments width cols rows first (b ∷ more) [] = ⊥
AllDone words segments width cols rows first (b ∷ more) (after ∷ afters) =
    (band_of words segments width cols rows first b.end b.pixels ≡ shown Done after) × AllDone words segments width cols rows b.end more afters

-- one after another
abbrev pub pasted : List (List ℕ) → List ℕ
pasted [] = []
pasted (l ∷ more) = l ++ pasted more
