-- The public call of coverage: refusals 1 and 13, then the coverage of a tile's pixels. Definitions only.
use Rattle.std.specs.Prelude.{◌≡◌, Bool, List, ◌∷◌, ℕ, ◌%◌, eqb, ℤ, length, Float}
use Rattle.panel.specs.Checks.{Check, check, first_no, unless}
use Rattle.panel.specs.Kinds.{paper_of}
use Rattle.panel.specs.Refusals.{not_whole}
use Rattle.panel.specs.Widths.{segment_floats}
use Rattle.panel.specs.Answer.{Answer}
use Rattle.panel.specs.Answer.{Done}
use Rattle.panel.specs.Verdict.{Verdict}
use Rattle.panel.specs.Verdict.{Fine, Against}
use Rattle.sides.specs.Tile.{tile_size}
use Rattle.coverage.specs.Coverage.{coverage_of}
use Rattle.coverage.specs.Ground.{ground_checks}

-- of the segments lent and an area so long, the fill's first segment and their number
abbrev pub fill_checks : List Float → ℕ → ℕ → ℕ → List Check
fill_checks segments area first n =
    check (eqb (length segments % segment_floats) 0) not_whole ∷ check (eqb area tile_size) not_whole ∷ ground_checks segments first n

-- after the call: its answer on paper, and the area
pub record Filled : Type 0 where
  pub answer : List ℕ
  pub area : List Float

abbrev pub filled : Answer → List Float → Filled
filled r area = record { answer = paper_of r; area = area }

-- a refusal leaves the area as it was
abbrev pub if_fine : Verdict → List Float → List Float → List Float
if_fine Fine new old = new
if_fine (Against n) new old = old

unfoldable pub fill_of : List Float → ℕ → ℕ → Bool → ℤ → Float → Float → List Float → Filled
fill_of segments first n even_odd backdrop x_tile y_tile area =
    let v = first_no (fill_checks segments (length area) first n) in
    filled (unless v 0 Done) (if_fine v (coverage_of segments first n even_odd backdrop x_tile y_tile) area)

-- the call's promise: the answer r and the area afterwards are these
abbrev pub FillMet : List Float → ℕ → ℕ → Bool → ℤ → Float → Float → (area : List Float) → Answer → (area' : List Float) → Type 0
FillMet segments first n even_odd backdrop x_tile y_tile area r area' = filled r area' ≡ fill_of segments first n even_odd backdrop x_tile y_tile area
