-- What the answers are on paper: the number, and after it the coverage or the packed pixel, where it is done. Definitions only.
use Rattle.std.specs.Prelude.{List, [], ◌∷◌, ℕ, Float}
use Rattle.panel.specs.Refusals.{done_no}
use Rattle.panel.specs.Verdict.{Verdict}
use Rattle.panel.specs.Verdict.{Fine, Against}
use Rattle.pixel.specs.Covered.{Covered}
use Rattle.pixel.specs.Covered as Covered'
use Rattle.pixel.specs.Coloured.{Coloured}
use Rattle.pixel.specs.Coloured as Coloured'

pub record Paper (A : Type 0) : Type 0 where
  pub number : ℕ
  pub value : List A

abbrev pub answered : {A : Type 0} → A → Paper A
answered a = record { number = done_no; value = a ∷ [] }

abbrev pub refused_by : {A : Type 0} → ℕ → Paper A
refused_by n = record { number = n; value = [] }

abbrev pub coverage_paper : Covered → Paper Float
coverage_paper (Covered'.Done a) = answered a
coverage_paper (Covered'.Refused n) = refused_by n

abbrev pub colour_paper : Coloured → Paper ℕ
colour_paper (Coloured'.Done px) = answered px
colour_paper (Coloured'.Refused n) = refused_by n

-- what a row of checks comes to: refused, or what follows where none fails
abbrev pub unless_no : {A : Type 0} → Verdict → Paper A → Paper A
unless_no Fine next = next
unless_no (Against n) next = refused_by n
