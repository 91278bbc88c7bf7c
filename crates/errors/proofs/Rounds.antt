-- The error bound, once for sums, products and quotients: of a result that is 0 or not subnormal, and not huge, what is rounded lies within two parts in 2 ^ 24, either way. Assumes nothing.
--     round_near    of any fraction
--     add_near, mul_near, over_near   of a sum, a product, and 1 over a number
--     round_error   of any fraction, subnormal too: that, and a part of 2 ^ -149
use mathlib.Core.Path.{◌≡◌, refl, sym, ap, ◌∙◌, subst}
use mathlib.Core.Bool.{false}
use mathlib.Core.Logic.{◌⊎◌, inl, inr}
use Prim.Native.Nat.{ℕ, zero, suc, ◌+◌, ◌*◌, ◌^◌, ◌≤◌, ◌<◌}
use native.Mathlib.Nat.{le_trans, le_of_eq, mul_assoc, mul_comm, mul-pos, mul-one, zero-mul, mul-le-mul_right, mul_right_comm}
use native.Mathlib.Omega.{arith}
use lib.Dec.{lit<, lit≤}
use lib.Ieee.{Float, binary32, round, add, mul, div}
use lib.Ieee.Scale.{round_same, grid}
use Rattle.float32.specs.Meaning.{whole}
use Rattle.util.specs.Constants.{one}
use Rattle.exact.proofs.Bounds.{small_round, small_finite}
use Rattle.errors.specs.Sizes.{parts, Is}
use Rattle.errors.proofs.Relative.{grid_high, grid_low, grid_error}
use Rattle.errors.proofs.Parts.{parts_pos, round_parts, add_is, mul_is, one_over}
use Rattle.errors.proofs.Near.{Near, near_as, near_cancel}

-- 0, or m at least
abbrev pub Clear : ℕ → ℕ → Type 0
Clear m x = (x ≡ 0) ⊎ (m ≤ x)

-- x is g parts, and g times c is near a
pub record Close (x : Float) (c a : ℕ) : Type 0 where
  pub g : ℕ
  pub is : Is x g
  pub near : Near 2 (g * c) a

none_is : Is (whole false 0) 0
unfolding round parts
none_is = (refl, refl)

near_of : (x n : ℕ) → x * 16777216 ≤ n * 16777217 → n * 16777215 ≤ x * 16777216 → Near 2 x n
near_of x n h l = record { high = omega arith; low = omega arith }

none_near : (c P : ℕ) → Near 2 (0 * c) (0 * P)
none_near c P = record { high = omega (arith, zero-mul c, zero-mul P); low = omega (arith, zero-mul c, zero-mul P) }

pub round_near : (a c N : ℕ) → 0 < c → N ≤ 2 ^ 24 → a ≤ N * c → Clear (8388608 * c) (a * parts) → Close (round binary32 false a c) c (a * parts)
unfolding parts
round_near zero c N C n b h = record {
  g = 0;
  is = subst (λ (y : Float). Is y 0) (sym (round_same binary32 false 0 c 0 1 C (lit< tt) (omega arith))) none_is;
  near = none_near c parts;
}
round_near (suc a) c N C n b (inl h) = absurd (none (suc a * parts) (mul-pos (native.Mathlib.Nat.zero-lt-suc a) parts_pos) h)
  where
    none : (x : ℕ) → 0 < x → x ≡ 0 → ⊥
    none x p q = omega arith
round_near (suc a) c N C n b (inr h) = record {
  g = grid binary32 (suc a) c;
  is = round_parts (suc a) c (small_finite (round binary32 false (suc a) c) N (small_round false (suc a) c N C n b));
  near = near_of (grid binary32 (suc a) c * c) (suc a * parts) (grid_high (suc a) c C h) (grid_low (suc a) c C h);
}

-- ---- sums
pub add_near : (x y : Float) (n m : ℕ) → Is x n → Is y m → n + m ≤ 16777216 * parts → Clear 8388608 (n + m) → Close (add binary32 x y) 1 (n + m)
add_near x y n m v w b h =
    let r = round_near (n + m) parts 16777216 parts_pos (lit≤ tt) b (wide h) in
    record {
      g = r.g;
      is = subst (λ (z : Float). Is z r.g) (sym (add_is x y n m v w)) r.is;
      near = near_as 2 r.g (n + m) (r.g * 1) (n + m) (sym (mul-one r.g)) refl (near_cancel 2 r.g (n + m) parts parts_pos r.near);
    }
  where
    wide : Clear 8388608 (n + m) → Clear (8388608 * parts) ((n + m) * parts)
    wide (inl e) = inl (ap (λ (z : ℕ). z * parts) e ∙ zero-mul parts)
    wide (inr l) = inr (mul-le-mul_right parts l)

-- ---- products
pub mul_near : (x y : Float) (n m : ℕ) → Is x n → Is y m → n * m ≤ 16777216 * (parts * parts) → Clear (8388608 * parts) (n * m) → Close (mul binary32 x y) parts (n * m)
mul_near x y n m v w b h =
    let r = round_near (n * m) (parts * parts) 16777216 (mul-pos parts_pos parts_pos) (lit≤ tt) b (wide h) in
    record {
      g = r.g;
      is = subst (λ (z : Float). Is z r.g) (sym (mul_is x y n m v w)) r.is;
      near =
          near_cancel 2 (r.g * parts) (n * m) parts parts_pos
          (near_as 2 (r.g * (parts * parts)) (n * m * parts) (r.g * parts * parts) (n * m * parts) (sym (mul_assoc r.g parts parts)) refl r.near);
    }
  where
    wide : Clear (8388608 * parts) (n * m) → Clear (8388608 * (parts * parts)) (n * m * parts)
    wide (inl e) = inl (ap (λ (z : ℕ). z * parts) e ∙ zero-mul parts)
    wide (inr l) = inr (le_trans (le_of_eq (sym (mul_assoc 8388608 parts parts))) (mul-le-mul_right parts l))

-- ---- 1 over a number
pub over_near : (y : Float) (m : ℕ) → Is y m → 0 < m → parts ≤ 16777216 * m → 8388608 * m ≤ parts * parts → Close (div binary32 one y) m (parts * parts)
over_near y m w M b h =
    let r = round_near parts m 16777216 M (lit≤ tt) b (inr h) in
    record { g = r.g; is = subst (λ (z : Float). Is z r.g) (sym (one_over y m w M)) r.is; near = r.near }

-- ---- any fraction: a part of 2 ^ -149 more
pub record Off (x : Float) (c a : ℕ) : Type 0 where
  pub g : ℕ
  pub is : Is x g
  pub high : g * c * 16777216 ≤ a * 16777217 + c * 16777216
  pub low : a * 16777216 ≤ g * c * 16777218 + c * 16777216

pub round_error : (a c N : ℕ) → 0 < c → N ≤ 2 ^ 24 → a ≤ N * c → Off (round binary32 false a c) c (a * parts)
unfolding parts
round_error a c N C n b =
    let e = grid_error a c C in
    record {
      g = grid binary32 a c;
      is = round_parts a c (small_finite (round binary32 false a c) N (small_round false a c N C n b));
      high = e.0;
      low = e.1;
    }
