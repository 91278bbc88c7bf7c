-- What a call checks before it starts: a row of checks, in order, of which the first that fails speaks. Definitions only.
use Rattle.std.specs.Prelude.{Bool, cond, List, [], ◌∷◌, ℕ}
use Rattle.panel.specs.Verdict.{Verdict}
use Rattle.panel.specs.Verdict.{Fine, Against}
use Rattle.panel.specs.Answer.{Answer}
use Rattle.panel.specs.Answer.{Refused}

-- a check, with the number of its refusal
pub record Check : Type 0 where
  pub ok : Bool
  pub no : ℕ

abbrev pub check : Bool → ℕ → Check
check b n = record { ok = b; no = n }

abbrev pub first_no : List Check → Verdict
first_no [] = Fine
first_no (c ∷ more) = cond c.ok (first_no more) (Against c.no)

-- what a row of checks comes to: refused with the item named, or what follows where none fails
abbrev pub unless : Verdict → ℕ → Answer → Answer
unless Fine item next = next
unless (Against n) item next = Refused n item
