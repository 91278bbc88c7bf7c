-- What is not below a finite number is not below what that number is not below. Assumes nothing.
use mathlib.Core.Path.{◌≡◌, refl, sym, ap, ◌∙◌}
use mathlib.Core.Bool.{Bool, true, false, true≢false}
use Prim.Native.Nat.{ℕ, ◌+◌, ◌*◌, ◌≤◌, ◌<◌}
use native.Mathlib.Nat.{zero-mul, eq_of_mul-eq-mul_right}
use native.Mathlib.Omega.{arith}
use lib.Dec.{T}
use lib.Ieee.{Float, nan, inf, fin, up, down, below, lt}
use lib.Ieee.Fits.{down_pos}
use lib.Ieee.Positive.{through}
use lib.Ieee.Scale.{finite}
use borrow.Author.Tests.{le-ltb, ltb-false}

-- a product that is nothing
none : (A F : ℕ) → 0 < F → A * F ≤ 0 → A ≡ 0
none A F p h = eq_of_mul-eq-mul_right F p A 0 (let e : A * F ≡ 0 = omega arith in e ∙ sym (zero-mul F))

left_none : (x y : ℕ) → x + y ≤ 0 → x ≤ 0
left_none x y h = omega arith

right_none : (x y : ℕ) → x + y ≤ 0 → y ≤ 0
right_none x y h = omega arith

nothing : (A F : ℕ) → A ≡ 0 → A * F ≡ 0
nothing A F e = ap (λ (z : ℕ). z * F) e ∙ zero-mul F

-- ±A / D, ±C / F and ±B / E
module _ (A D C F B E : ℕ) (Dp : 0 < D) (Fp : 0 < F) (Ep : 0 < E) where
  over : (s u t : Bool) → below s (A * F) u (C * D) ≡ false → below u (C * E) t (B * F) ≡ false → below s (A * E) t (B * D) ≡ false
  over false u true h k = refl
  over false false false h k = le-ltb (A * E) (B * D) (through B C A E F D Fp (ltb-false (C * E) (B * F) k) (ltb-false (A * F) (C * D) h))
  over false true false h k =
      let z : B * D ≡ 0 = nothing B D (none B F Fp (right_none (C * E) (B * F) (ltb-false 0 (C * E + B * F) k))) in
      le-ltb (A * E) (B * D) (omega arith)
  over true false false h k =
      let q = ltb-false 0 (A * F + C * D) h in
      let a : A * E ≡ 0 = nothing A E (none A F Fp (left_none (A * F) (C * D) q)) in
      let c : C * E ≡ 0 = nothing C E (none C D Dp (right_none (A * F) (C * D) q)) in
      let f : B * F ≤ 0 = omega (arith, ltb-false (C * E) (B * F) k) in
      let z : B * D ≡ 0 = nothing B D (none B F Fp f) in
      le-ltb 0 (A * E + B * D) (omega arith)
  over true true false h k =
      let q = ltb-false 0 (C * E + B * F) k in
      let c : C * D ≡ 0 = nothing C D (none C E Ep (left_none (C * E) (B * F) q)) in
      let z : B * D ≡ 0 = nothing B D (none B F Fp (right_none (C * E) (B * F) q)) in
      let f : A * F ≤ 0 = omega (arith, ltb-false (C * D) (A * F) h) in
      let a : A * E ≡ 0 = nothing A E (none A F Fp f) in
      le-ltb 0 (A * E + B * D) (omega arith)
  over true true true h k = le-ltb (B * D) (A * E) (through A C B D F E Fp (ltb-false (C * D) (A * F) h) (ltb-false (B * F) (C * E) k))
  over true false true h k =
      let a : A * E ≡ 0 = nothing A E (none A F Fp (left_none (A * F) (C * D) (ltb-false 0 (A * F + C * D) h))) in
      le-ltb (B * D) (A * E) (omega arith)

pub not_below : (x z y : Float) → T (finite z) → lt x z ≡ false → lt z y ≡ false → lt x y ≡ false
unfolding lt
not_below x nan y g h k = absurd g
not_below x (inf u) y g h k = absurd g
not_below nan (fin u n d) y g h k = refl
not_below (inf true) (fin u n d) y g h k = absurd (true≢false h)
not_below (inf false) (fin u n d) nan g h k = refl
not_below (inf false) (fin u n d) (inf t) g h k = refl
not_below (inf false) (fin u n d) (fin t l c) g h k = refl
not_below (fin s m e) (fin u n d) nan g h k = refl
not_below (fin s m e) (fin u n d) (inf true) g h k = refl
not_below (fin s m e) (fin u n d) (inf false) g h k = absurd (true≢false k)
not_below (fin s m e) (fin u n d) (fin t l c) g h k =
    over (m * up e) (down e) (n * up d) (down d) (l * up c) (down c) (down_pos e) (down_pos d) (down_pos c) s u t h k
