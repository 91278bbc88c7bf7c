-- An answer's number and values on paper fix the answer, so a promise through them admits one answer only. Assumes nothing.
use mathlib.Core.Path.{◌≡◌, refl}
use Prim.Native.Nat.{ℕ}
use native.Mathlib.Omega.{arith}
use Rattle.panel.specs.Kinds.{paper_of}
use Rattle.panel.specs.Answer.{Answer}
use Rattle.panel.specs.Answer.{Done, Refused}

pub paper_once : (a b : Answer) → paper_of a ≡ paper_of b → a ≡ b
paper_once Done Done e = refl
paper_once Done (Refused n i) e = let z : ◌≡◌ {A = ℕ} 0 1 = cc in absurd (omega arith)
paper_once (Refused n i) Done e = let z : ◌≡◌ {A = ℕ} 0 1 = cc in absurd (omega arith)
paper_once (Refused n i) (Refused m j) e =
    let p : n ≡ m = cc in
    let q : i ≡ j = cc in
    rw (p, q)
