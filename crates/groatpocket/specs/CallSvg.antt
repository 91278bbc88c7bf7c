-- What a caller sees of the call for outlines from SVG, and the same read off what its definition leaves. Definitions only.
use Rattle.std.specs.Prelude.{ℕ, ◌≡◌, List, [], ◌∷◌, Float}
use Rattle.svg.specs.Lines.{Left, lines_of}

-- the number; how many lines were written; the text's place; and the path numbers and coordinates lent
pub record SvgSeen : Type 0 where
  pub number : ℕ
  pub lines : ℕ
  pub place : ℕ
  pub paths : List ℕ
  pub coords : List Float

abbrev pub svg_lent : (number lines place : ℕ) → List ℕ → List Float → SvgSeen
svg_lent n l p ps cs = record { number = n; lines = l; place = p; paths = ps; coords = cs }

-- on paper the lines' number stands after the answer's, and the text's place last; what isn't there is 0
abbrev pub svg_paper : List ℕ → List ℕ → List Float → SvgSeen
svg_paper [] ps cs = svg_lent 0 0 0 ps cs
svg_paper (n ∷ []) ps cs = svg_lent n 0 0 ps cs
svg_paper (n ∷ l ∷ []) ps cs = svg_lent n l 0 ps cs
svg_paper (n ∷ l ∷ p ∷ more) ps cs = svg_lent n l p ps cs

abbrev pub svg_seen : Left → SvgSeen
svg_seen l = svg_paper l.answer l.paths l.coords

-- the promise: what a caller sees is what the definition leaves
abbrev pub GpSvgMet : (text : List ℕ) (depth path : ℕ) (ps : List ℕ) (cs : List Float) → (r lines place : ℕ) (ps' : List ℕ) (cs' : List Float) → Type 0
GpSvgMet text d path ps cs r lines place ps' cs' = svg_lent r lines place ps' cs' ≡ svg_seen (lines_of text d path ps cs)
