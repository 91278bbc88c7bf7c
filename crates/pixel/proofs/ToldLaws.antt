-- Laws of what code answers, in the words of the definitions. Assumes nothing.
use mathlib.Core.Path.{◌≡◌, ap}
use Prim.Native.Nat.{ℕ}
use native.Mathlib.Omega.{arith}
use lib.Ieee.{Float}
use Rattle.std.specs.Prelude.{Result, Ok, Err, IsErrAnd}
use Rattle.panel.specs.Refusals.{no_of}
use Rattle.panel.specs.declared.refusals.Refusal.{Refusal}
use Rattle.panel.proofs.ToldLaws.{no_once}
use Rattle.pixel.specs.Covered.{covered_told}
use Rattle.pixel.specs.Covered as Covered'
use Rattle.pixel.specs.Coloured.{coloured_told}
use Rattle.pixel.specs.Coloured as Coloured'

-- a refusal that `?` hands on
pub covered_on : (r : Result Float Refusal) (why : Refusal) → IsErrAnd r (λ e. e ≡ why) → covered_told r ≡ Covered'.Refused (no_of why)
covered_on (Ok x) why h = absurd h
covered_on (Err e) why h = ap (λ (e : Refusal). Covered'.Refused (no_of e)) h

pub coloured_on : (r : Result ℕ Refusal) (why : Refusal) → IsErrAnd r (λ e. e ≡ why) → coloured_told r ≡ Coloured'.Refused (no_of why)
coloured_on (Ok x) why h = absurd h
coloured_on (Err e) why h = ap (λ (e : Refusal). Coloured'.Refused (no_of e)) h

-- the words fix what code answers
pub covered_told_once : (r s : Result Float Refusal) → covered_told r ≡ covered_told s → r ≡ s
covered_told_once (Ok x) (Ok y) e = let p : x ≡ y = cc in ap Ok p
covered_told_once (Ok x) (Err b) e = let z : ◌≡◌ {A = ℕ} 0 1 = cc in absurd (omega arith)
covered_told_once (Err a) (Ok y) e = let z : ◌≡◌ {A = ℕ} 0 1 = cc in absurd (omega arith)
covered_told_once (Err a) (Err b) e = let n : no_of a ≡ no_of b = cc in ap Err (no_once a b n)

pub coloured_told_once : (r s : Result ℕ Refusal) → coloured_told r ≡ coloured_told s → r ≡ s
coloured_told_once (Ok x) (Ok y) e = let p : x ≡ y = cc in ap Ok p
coloured_told_once (Ok x) (Err b) e = let z : ◌≡◌ {A = ℕ} 0 1 = cc in absurd (omega arith)
coloured_told_once (Err a) (Ok y) e = let z : ◌≡◌ {A = ℕ} 0 1 = cc in absurd (omega arith)
coloured_told_once (Err a) (Err b) e = let n : no_of a ≡ no_of b = cc in ap Err (no_once a b n)
