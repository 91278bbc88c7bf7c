-- One answer only: two answers that both meet a call's promise are equal. Assumes nothing.
use mathlib.Core.Path.{◌≡◌, sym, ap, ◌∙◌}
use mathlib.Core.Bool.{Bool}
use mathlib.Core.List.{List, [], ◌∷◌}
use Prim.Native.Nat.{ℕ}
use native.Mathlib.Omega.{arith}
use lib.IntN.{ℤ}
use lib.Ieee.{Float}
use Rattle.pixel.specs.Answers.{Paper, coverage_paper, colour_paper}
use Rattle.pixel.specs.Coverage.{CoverageAtMet}
use Rattle.pixel.specs.Colour.{ColourAtMet}
use Rattle.pixel.specs.Covered.{Covered}
use Rattle.pixel.specs.Covered as Covered'
use Rattle.pixel.specs.Coloured.{Coloured}
use Rattle.pixel.specs.Coloured as Coloured'

covered_once : (a b : Covered) → coverage_paper a ≡ coverage_paper b → a ≡ b
covered_once (Covered'.Done x) (Covered'.Done y) e = let f : x ∷ [] ≡ y ∷ [] = ap (λ (p : Paper Float). p.value) e in cc
covered_once (Covered'.Done x) (Covered'.Refused n) e =
    let f : x ∷ [] ≡ [] = ap (λ (p : Paper Float). p.value) e in
    let z : ◌≡◌ {A = ℕ} 0 1 = cc in absurd (omega arith)
covered_once (Covered'.Refused n) (Covered'.Done y) e =
    let f : [] ≡ y ∷ [] = ap (λ (p : Paper Float). p.value) e in
    let z : ◌≡◌ {A = ℕ} 0 1 = cc in absurd (omega arith)
covered_once (Covered'.Refused n) (Covered'.Refused m) e = ap Covered'.Refused (ap (λ (p : Paper Float). p.number) e)

coloured_once : (a b : Coloured) → colour_paper a ≡ colour_paper b → a ≡ b
coloured_once (Coloured'.Done x) (Coloured'.Done y) e = let f : x ∷ [] ≡ y ∷ [] = ap (λ (p : Paper ℕ). p.value) e in cc
coloured_once (Coloured'.Done x) (Coloured'.Refused n) e =
    let f : x ∷ [] ≡ [] = ap (λ (p : Paper ℕ). p.value) e in
    let z : ◌≡◌ {A = ℕ} 0 1 = cc in absurd (omega arith)
coloured_once (Coloured'.Refused n) (Coloured'.Done y) e =
    let f : [] ≡ y ∷ [] = ap (λ (p : Paper ℕ). p.value) e in
    let z : ◌≡◌ {A = ℕ} 0 1 = cc in absurd (omega arith)
coloured_once (Coloured'.Refused n) (Coloured'.Refused m) e = ap Coloured'.Refused (ap (λ (p : Paper ℕ). p.number) e)

pub one_coverage : (segs : List Float) (first n : ℕ) (eo : Bool) (z : ℤ) (xt yt : Float) (column row : ℕ) (a b : Covered)
    → CoverageAtMet segs first n eo z xt yt column row a → CoverageAtMet segs first n eo z xt yt column row b → a ≡ b
one_coverage segs first n eo z xt yt column row a b p q = covered_once a b (p ∙ sym q)

pub one_colour : (ws : List ℕ) (segs : List Float) (t column row : ℕ) (a b : Coloured)
    → ColourAtMet ws segs t column row a → ColourAtMet ws segs t column row b → a ≡ b
one_colour ws segs t column row a b p q = coloured_once a b (p ∙ sym q)
