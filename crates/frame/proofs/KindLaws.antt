-- An answer's number and values on paper fix the answer, so a promise through them admits one answer only. Assumes nothing.
use mathlib.Core.Path.{◌≡◌, refl, sym, ap, ◌∙◌}
use Prim.Native.Nat.{ℕ, zero, suc}
use native.Mathlib.Omega.{arith}
use Rattle.frame.specs.Frame.{stage_no, paper_of}
use Rattle.frame.specs.declared.kinds.Stage.{Stage}
use Rattle.frame.specs.Framed.{Framed}
use Rattle.frame.specs.Framed.{Done, Refused}

-- the stage that a number names
abbrev stage_at : ℕ → Stage
stage_at zero = Stage.Lent
stage_at (suc zero) = Stage.Lent
stage_at (suc (suc zero)) = Stage.Count
stage_at (suc (suc (suc zero))) = Stage.Backdrop
stage_at (suc (suc (suc (suc zero)))) = Stage.HandOut
stage_at (suc (suc (suc (suc (suc n))))) = Stage.Tile

named : (a : Stage) → stage_at (stage_no a) ≡ a
named Stage.Lent = refl
named Stage.Count = refl
named Stage.Backdrop = refl
named Stage.HandOut = refl
named Stage.Tile = refl

pub stage_once : (a b : Stage) → stage_no a ≡ stage_no b → a ≡ b
stage_once a b e = sym (named a) ∙ ap stage_at e ∙ named b

pub framed_once : (a b : Framed) → paper_of a ≡ paper_of b → a ≡ b
framed_once (Done r) (Done s) e =
    let p : r.lines ≡ s.lines = cc in
    let q : r.refs ≡ s.refs = cc in
    λ i. Done (record { lines = p i; refs = q i })
framed_once (Done r) (Refused at n item s) e = let z : ◌≡◌ {A = ℕ} 0 1 = cc in absurd (omega arith)
framed_once (Refused at n item r) (Done s) e = let z : ◌≡◌ {A = ℕ} 0 1 = cc in absurd (omega arith)
framed_once (Refused at n item r) (Refused by m other s) e =
    let a : n ≡ m = cc in
    let t : stage_no at ≡ stage_no by = cc in
    let b : item ≡ other = cc in
    let p : r.lines ≡ s.lines = cc in
    let q : r.refs ≡ s.refs = cc in
    let w : at ≡ by = stage_once at by t in
    λ i. Refused (w i) (a i) (b i) (record { lines = p i; refs = q i })
