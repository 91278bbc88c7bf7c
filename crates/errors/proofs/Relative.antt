-- The error of `round`: half a unit of the last place at most, so a part in 2 ^ 24 at most of a result that isn't subnormal. Assumes nothing.
--     closest_half     the whole number closest to a / D is half of 1 away at most
--     grid_error       what is rounded, subnormal or not, is off by that and a unit at most
--     grid_high, grid_low   what is rounded, in units of the smallest value, lies within 2 ^ -24 of the fraction
use mathlib.Core.Path.{◌≡◌, sym, ap, ◌∙◌, subst}
use mathlib.Core.Bool.{not}
use mathlib.Core.Logic.{◌⊎◌, inl, inr}
use Prim.Native.Nat.{ℕ, suc, ◌+◌, ◌-◌, ◌*◌, ◌/◌, ◌%◌, ◌^◌, ◌≤◌, ◌<◌, compare, Ordering}
use native.Mathlib.Nat.{le_trans, le_of_eq, mul_assoc, mul_comm, mul-pos, add-mul, one-mul, mul-le-mul_right, mul-one, mod-lt, div-add-mod', le-div_iff_mul-le, mul_right_comm}
use native.Mathlib.Omega.{arith}
use lib.Arith.{lt_of_le-ne}
use lib.Pow.{pow-add, pow_pos}
use lib.Dec.{T, is_le, compare_is_eq, eqb, leb→le, nleb→lt, eqb→eq, eqb_refl}
use lib.Ieee.{binary32, nearest, size}
use lib.Ieee.Digits.{size_reaches}
use lib.Ieee.Nearest.{closest}
use lib.Ieee.Order.{drop, kept}
use lib.Ieee.Scale.{grid, normal_of_fraction}
use Rattle.float32.proofs.Tests.{below_or_not}

-- ---- what `compare` says
abbrev Cmp : Ordering → ℕ → ℕ → Type 0
Cmp Ordering.lt a b = a < b
Cmp Ordering.eq a b = a ≡ b
Cmp Ordering.gt a b = b < a

cmp : (a b : ℕ) → Cmp (compare a b) a b
cmp a b = go (compare a b) (leb→le a b) (nleb→lt a b) (eqb→eq a b) (λ (e : a ≡ b). subst (λ (x : ℕ). T (eqb a x)) e (eqb_refl a))
  where
    go : (o : Ordering) → (T (is_le o) → a ≤ b) → (T (not (is_le o)) → b < a) → (T (compare_is_eq o) → a ≡ b) → (a ≡ b → T (compare_is_eq o)) → Cmp o a b
    go Ordering.lt h k e n = lt_of_le-ne (h tt) n
    go Ordering.eq h k e n = e tt
    go Ordering.gt h k e n = k tt

-- ---- half of 1 at most
abbrev Half : (n a D : ℕ) → Type 0
Half n a D = (n * D * 2 ≤ a * 2 + D) × (a * 2 ≤ n * D * 2 + D)

tie : (q b r D : ℕ) → b ≤ 1 → r * 2 ≡ D → Half (q + b) (q * D + r) D
tie q b r D h e = let k = mul-le-mul_right D h in (omega (arith, add-mul q b D, one-mul D, k), omega (arith, add-mul q b D, one-mul D, k))

even_or_odd : (q : ℕ) → q % 2 ≤ 1
even_or_odd q = omega arith

gap : (o : Ordering) (q r D : ℕ) → Cmp o (r * 2) D → r < D → Half (nearest q o) (q * D + r) D
gap Ordering.lt q r D h l = (omega arith, omega arith)
gap Ordering.eq q r D h l = tie q (q % 2) r D (even_or_odd q) h
gap Ordering.gt q r D h l = let k : suc q * D ≡ q * D + D = native.Mathlib.Nat.suc-mul q D in (omega arith, omega arith)

pub closest_half : (a D : ℕ) → 0 < D → (closest a D * D * 2 ≤ a * 2 + D) × (a * 2 ≤ closest a D * D * 2 + D)
closest_half a D p = subst (λ (z : ℕ). Half (closest a D) z D) (div-add-mod' a D) (gap (compare (a % D * 2) D) (a / D) (a % D) D (cmp (a % D * 2) D) (mod-lt a p))

-- ---- n / c rounded to 24 digits: g, where w = c * 2 ^ k is what a unit of the last place is worth
over : (g n w : ℕ) → g * 2 ≤ n * 2 + w → w * 8388608 ≤ n → g * 16777216 ≤ n * 16777217
over g n w h l = omega arith

under : (g n w : ℕ) → n * 2 ≤ g * 2 + w → w * 8388608 ≤ n → n * 16777215 ≤ g * 16777216
under g n w h l = omega arith

module _ (n c : ℕ) (C : 0 < c) (N : 24 ≤ size (n / c)) where
  abbrev k : ℕ
  k = drop 24 n c

  all : (z : ℕ) → 24 ≤ z → 23 + (z - 24) < z
  all z h = omega arith

  -- a unit of the last place
  unit_small : c * 2 ^ k * 8388608 ≤ n
  unit_small =
      let h : 2 ^ (23 + k) * c ≤ n = (le-div_iff_mul-le C).0 (size_reaches (n / c) (23 + k) (all (size (n / c)) N)) in
      le_trans (le_of_eq (mul_comm (c * 2 ^ k) 8388608 ∙ ap (λ (z : ℕ). 8388608 * z) (mul_comm c (2 ^ k)) ∙ sym (mul_assoc 8388608 (2 ^ k) c) ∙ ap (λ (z : ℕ). z * c) (sym (pow-add 2 23 k)))) h

  worth : kept 24 n c * 2 ^ k * c ≡ kept 24 n c * (c * 2 ^ k)
  worth = mul_assoc (kept 24 n c) (2 ^ k) c ∙ ap (λ (z : ℕ). kept 24 n c * z) (mul_comm (2 ^ k) c)

  kept_high : kept 24 n c * 2 ^ k * c * 16777216 ≤ n * 16777217
  kept_high =
      subst (λ (g : ℕ). g * 16777216 ≤ n * 16777217) (sym worth)
      (over (kept 24 n c * (c * 2 ^ k)) n (c * 2 ^ k) (closest_half n (c * 2 ^ k) (mul-pos C (pow_pos k))).0 unit_small)

  kept_low : n * 16777215 ≤ kept 24 n c * 2 ^ k * c * 16777216
  kept_low =
      subst (λ (g : ℕ). n * 16777215 ≤ g * 16777216) (sym worth)
      (under (kept 24 n c * (c * 2 ^ k)) n (c * 2 ^ k) (closest_half n (c * 2 ^ k) (mul-pos C (pow_pos k))).1 unit_small)

-- a / c, not below the smallest value that has all its digits
pub grid_high : (a c : ℕ) → 0 < c → 2 ^ 23 * c ≤ a * 2 ^ 149 → grid binary32 a c * c * 16777216 ≤ a * 2 ^ 149 * 16777217
grid_high a c C h = kept_high (a * 2 ^ 149) c C (normal_of_fraction binary32 a c C h)

pub grid_low : (a c : ℕ) → 0 < c → 2 ^ 23 * c ≤ a * 2 ^ 149 → a * 2 ^ 149 * 16777215 ≤ grid binary32 a c * c * 16777216
grid_low a c C h = kept_low (a * 2 ^ 149) c C (normal_of_fraction binary32 a c C h)

-- of any fraction, one that is subnormal too
subnormal : (g n c : ℕ) → g * c * 2 ≤ n * 2 + c → n * 2 ≤ g * c * 2 + c → (g * c * 16777216 ≤ n * 16777217 + c * 16777216) × (n * 16777216 ≤ g * c * 16777218 + c * 16777216)
subnormal g n c h l = (omega arith, omega arith)

looser : (x n c : ℕ) → x * 16777216 ≤ n * 16777217 → n * 16777215 ≤ x * 16777216 → (x * 16777216 ≤ n * 16777217 + c * 16777216) × (n * 16777216 ≤ x * 16777218 + c * 16777216)
looser x n c h l = (omega arith, omega arith)

kept_error : (n c : ℕ) → 0 < c
    → (kept 24 n c * 2 ^ drop 24 n c * c * 16777216 ≤ n * 16777217 + c * 16777216) × (n * 16777216 ≤ kept 24 n c * 2 ^ drop 24 n c * c * 16777218 + c * 16777216)
kept_error n c C = go (below_or_not (size (n / c)) 24)
  where
    few : (z : ℕ) → z < 24 → z - 24 ≡ 0
    few z h = omega arith

    go : (size (n / c) < 24) ⊎ (24 ≤ size (n / c))
        → (kept 24 n c * 2 ^ drop 24 n c * c * 16777216 ≤ n * 16777217 + c * 16777216) × (n * 16777216 ≤ kept 24 n c * 2 ^ drop 24 n c * c * 16777218 + c * 16777216)
    go (inr h) = looser (kept 24 n c * 2 ^ drop 24 n c * c) n c (kept_high n c C h) (kept_low n c C h)
    go (inl h) =
        subst (λ (k : ℕ). (closest n (c * 2 ^ k) * 2 ^ k * c * 16777216 ≤ n * 16777217 + c * 16777216) × (n * 16777216 ≤ closest n (c * 2 ^ k) * 2 ^ k * c * 16777218 + c * 16777216))
        (sym (few (size (n / c)) h))
        (subst (λ (u : ℕ). (closest n u * 1 * c * 16777216 ≤ n * 16777217 + c * 16777216) × (n * 16777216 ≤ closest n u * 1 * c * 16777218 + c * 16777216)) (sym (mul-one c))
        (subst (λ (g : ℕ). (g * c * 16777216 ≤ n * 16777217 + c * 16777216) × (n * 16777216 ≤ g * c * 16777218 + c * 16777216)) (sym (mul-one (closest n c)))
        (let e = closest_half n c C in subnormal (closest n c) n c e.0 e.1)))

pub grid_error : (a c : ℕ) → 0 < c
    → (grid binary32 a c * c * 16777216 ≤ a * 2 ^ 149 * 16777217 + c * 16777216) × (a * 2 ^ 149 * 16777216 ≤ grid binary32 a c * c * 16777218 + c * 16777216)
grid_error a c C = kept_error (a * 2 ^ 149) c C
