-- Laws of a row of checks: where it is fine all hold, and the first that fails speaks. Every public call cites these. Assumes nothing.
use mathlib.Core.Path.{◌≡◌, refl}
use mathlib.Core.Bool.{Bool, true, false, cond}
use mathlib.Core.List.{List, [], ◌∷◌}
use Prim.Native.Nat.{ℕ, zero, suc}
use native.Mathlib.Omega.{arith}
use Rattle.panel.specs.Checks.{Check, first_no, unless}
use Rattle.panel.specs.Verdict.{Verdict}
use Rattle.panel.specs.Verdict.{Fine, Against}
use Rattle.panel.specs.Answer.{Answer}
use Rattle.panel.specs.Answer.{Done, Refused}

abbrev pub AllOk : List Check → Type 0
AllOk [] = Unit {0}
AllOk (c ∷ more) = (c.ok ≡ true) × AllOk more

-- those before place k hold, and the one at k fails
abbrev pub FailsAt : ℕ → List Check → Type 0
FailsAt k [] = ⊥
FailsAt zero (c ∷ more) = c.ok ≡ false
FailsAt (suc k) (c ∷ more) = (c.ok ≡ true) × FailsAt k more

abbrev pub no_at : ℕ → List Check → ℕ
no_at k [] = 0
no_at zero (c ∷ more) = c.no
no_at (suc k) (c ∷ more) = no_at k more

pick_fine : (t : Bool) (v : Verdict) (n : ℕ) → cond t v (Against n) ≡ Fine → (t ≡ true) × (v ≡ Fine)
pick_fine true v n e = (refl, e)
pick_fine false v n e = let z : ◌≡◌ {A = ℕ} 0 1 = cc in absurd (omega arith)

-- a row that is fine: each check holds
pub all_ok : (cs : List Check) → first_no cs ≡ Fine → AllOk cs
all_ok [] e = tt
all_ok (c ∷ more) e = let f = pick_fine c.ok (first_no more) c.no e in (f.0, all_ok more f.1)

-- and back
pub none_fails : (cs : List Check) → AllOk cs → first_no cs ≡ Fine
none_fails [] h = refl
none_fails (c ∷ more) h = rw h.0 (none_fails more h.1)

-- a row whose check at place k is the first to fail
pub fails_at : (k : ℕ) (cs : List Check) → FailsAt k cs → first_no cs ≡ Against (no_at k cs)
fails_at k [] h = absurd h
fails_at zero (c ∷ more) h = rw h
fails_at (suc k) (c ∷ more) h = rw h.0 (fails_at k more h.1)

-- what a call answers after its row of checks
pub unless_no : (v : Verdict) (n item : ℕ) (a : Answer) → v ≡ Against n → unless v item a ≡ Refused n item
unless_no v n item a e = rw e

pub unless_fine : (v : Verdict) (item : ℕ) (a : Answer) → v ≡ Fine → unless v item a ≡ a
unless_fine v item a e = rw e

pub unless_done : (v : Verdict) (item : ℕ) (a : Answer) → unless v item a ≡ Done → (v ≡ Fine) × (a ≡ Done)
unless_done Fine item a e = (refl, e)
unless_done (Against n) item a e = let z : ◌≡◌ {A = ℕ} 0 1 = cc in absurd (omega arith)
