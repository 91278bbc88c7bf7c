-- The bits of x + 3 * 2 ^ 22 by x's floor; `bits_of` by two natural numbers, for `omega`; and floats that are small enough. Assumes nothing.
--     bits_parts, same_bits      what `bits_of` is, and that it tells two whole numbers apart
--     floor_shifted, whole_shifted   the two functions' answers
--     not_up_to      the test turned round
--     small_within, whole_within, floor_within   what lies below 2 ^ 22 in size
use mathlib.Core.Path.{◌≡◌, refl, sym, ap, ◌∙◌, subst}
use mathlib.Core.Bool.{Bool, true, false, not, true≢false, false≢true}
use mathlib.Core.Logic.{◌⊎◌, inl, inr}
use Prim.Native.Nat.{ℕ, ◌+◌, ◌-◌, ◌*◌, ◌/◌, ◌^◌, ◌≤◌, ◌<◌}
use native.Mathlib.Nat.{one-mul, add-mul, le_of_eq, mod-lt, div-add-mod', mul-lt-mul_of_pos_right, lt_of_mul-lt-mul_right}
use native.Mathlib.Omega.{arith}
use lib.Dec.{T, ltb}
use lib.IntN.{ℤ, pos, negsuc, nat_abs}
use lib.Ieee.{Float, nan, inf, fin, binary32, up, down, add, lt, le, fits, is_nan, to_bits}
use lib.Ieee.Fits.{down_pos}
use lib.Ieee.Scale.{finite}
use borrow.Author.Tests.{lt-ltb, ltb-true, ltb-false}
use Rattle.float32.specs.Inner.{Within, limit}
use Rattle.float32.specs.Meaning.{up_div}
use Rattle.float32.proofs.Floors.{lt_plus, gt_minus}
use Rattle.float32.proofs.Order.{le_of_not_lt}
use Rattle.float32.proofs.Magic.{magic, near, floor_near, div_is}
use Rattle.exact.specs.Whole.{IsWhole, Small, floor_z}
use Rattle.exact.proofs.Signs.{plus_of, minus_of, same_parts, abs_signed, neg_minus}
use Rattle.whole.specs.Bits.{zero_bits, bits_of}
use Rattle.whole.proofs.Shifted.{Shift, shifted, no_value_nan, up_reach}

-- ---- bits by the whole number
pub bits_parts : (n : ℤ) → minus_of n ≤ zero_bits → bits_of n + minus_of n ≡ zero_bits + plus_of n
unfolding bits_of
bits_parts (pos n) h = omega arith
bits_parts (negsuc n) h = omega arith

pub same_bits : (n k : ℤ) → minus_of n ≤ zero_bits → minus_of k ≤ zero_bits → bits_of n ≡ bits_of k → n ≡ k
same_bits n k h g e = same_parts n k (omega (arith, bits_parts n h, bits_parts k g))

from_parts : (n : ℤ) (b : ℕ) → b + minus_of n ≡ zero_bits + plus_of n → b ≡ bits_of n
unfolding bits_of
from_parts (pos n) b e = omega arith
from_parts (negsuc n) b e = omega arith

-- ---- the floor
-- S / D is N, or one less where it lies below N
divided : (S N D : ℕ) → 0 < D → S < N * D + D → N * D < S + D → (step : ℕ) → ((ltb S (N * D) ≡ true) × (step ≡ 1)) ⊎ ((ltb S (N * D) ≡ false) × (step ≡ 0)) → S / D + step ≡ N
divided S N D p a b step (inl w) =
    let h : S < N * D = ltb-true S (N * D) w.0 in
    let g : 0 < N = lt_of_mul-lt-mul_right D (omega arith) in
    let i : N ≡ (N - 1) + 1 = omega arith in
    let j : N * D ≡ (N - 1) * D + D = ap (λ (z : ℕ). z * D) i ∙ add-mul (N - 1) 1 D ∙ ap (λ (z : ℕ). (N - 1) * D + z) (one-mul D) in
    omega (arith, div_is S D (N - 1) (omega arith) (omega arith), w.1)
divided S N D p a b step (inr w) = omega (arith, div_is S D N (ltb-false S (N * D) w.0) a, w.1)

pub floor_shifted : (x : Float) → Within x → (step : ℕ)
    → ((lt x (near x) ≡ true) × (step ≡ 1)) ⊎ ((lt x (near x) ≡ false) × (step ≡ 0))
    → (step ≤ to_bits binary32 (add binary32 x magic)) × (to_bits binary32 (add binary32 x magic) - step ≡ bits_of (floor_z x))
floor_shifted x h step w =
    let f = shifted x h.below h.above in
    let d = divided f.S f.N f.D f.some f.above f.below step (told f w) in
    let q = f.S / f.D in
    (few f w, from_parts (floor_z x) (to_bits binary32 (add binary32 x magic) - step) (omega (arith, f.bits, f.least, f.floor, d, one f w)))
  where
    told : (f : Shift x) → ((lt x (near x) ≡ true) × (step ≡ 1)) ⊎ ((lt x (near x) ≡ false) × (step ≡ 0))
        → ((ltb f.S (f.N * f.D) ≡ true) × (step ≡ 1)) ⊎ ((ltb f.S (f.N * f.D) ≡ false) × (step ≡ 0))
    told f (inl w) = inl (sym f.under ∙ w.0, w.1)
    told f (inr w) = inr (sym f.under ∙ w.0, w.1)

    one : (f : Shift x) → ((lt x (near x) ≡ true) × (step ≡ 1)) ⊎ ((lt x (near x) ≡ false) × (step ≡ 0)) → step ≤ 1
    one f (inl w) = omega (arith, w.1)
    one f (inr w) = omega (arith, w.1)

    few : (f : Shift x) → ((lt x (near x) ≡ true) × (step ≡ 1)) ⊎ ((lt x (near x) ≡ false) × (step ≡ 0)) → step ≤ to_bits binary32 (add binary32 x magic)
    few f w = omega (arith, f.bits, one f w)

-- what is not up to x lies above it: both are numbers
pub not_up_to : (x : Float) → T (fits binary32 x) → Within x → le (near x) x ≡ false → lt x (near x) ≡ true
not_up_to x f h e = go (lt x (near x)) refl
  where
    number : (x : Float) → lt x (limit false) ≡ true → T (not (is_nan x))
    number nan l = absurd (unfold lt in false≢true l)
    number (inf s) l = unfold is_nan in tt
    number (fin s m e) l = unfold is_nan in tt

    go : (t : Bool) → lt x (near x) ≡ t → t ≡ true
    go true q = refl
    go false q =
        let v = (floor_near x f h.below h.above).value in
        absurd (true≢false (sym (le_of_not_lt (near x) x (no_value_nan (near x) v.0 v.1 v.3) (number x h.below) q) ∙ e))

-- ---- a whole number
pub whole_shifted : (x : Float) (n : ℤ) → Within x → IsWhole x n → to_bits binary32 (add binary32 x magic) + minus_of n ≡ zero_bits + plus_of n
whole_shifted x n h w =
    let f = shifted x h.below h.above in
    let v = f.whole_is n w in
    let a : v.0 < f.N + 1 = lt_of_mul-lt-mul_right f.D (omega (arith, f.above, v.1, add-mul f.N 1 f.D, one-mul f.D)) in
    let b : f.N < v.0 + 1 = lt_of_mul-lt-mul_right f.D (omega (arith, f.below, v.1, add-mul v.0 1 f.D, one-mul f.D)) in
    omega (arith, f.bits, f.least, v.2)

-- ---- below 2 ^ 22 in size
less : (A D N : ℕ) → 0 < D → N < 4194304 → A ≤ N * D → A < 4194304 * D
less A D N p l h = omega (arith, mul-lt-mul_of_pos_right l p)

plus_above : (m : ℕ) (e : ℤ) → lt (limit true) (fin false m e) ≡ true
unfolding lt
plus_above m e = lt-ltb 0 (4194304 * down e + m * up e * 1) (omega (arith, down_pos e))

minus_below : (m : ℕ) (e : ℤ) → lt (fin true m e) (limit false) ≡ true
unfolding lt
minus_below m e = lt-ltb 0 (m * up e * 1 + 4194304 * down e) (omega (arith, down_pos e))

pub small_within : (x : Float) (N : ℕ) → N < 2 ^ 22 → Small x N → Within x
small_within nan N l h = absurd h
small_within (inf s) N l h = absurd h
small_within (fin false m e) N l h =
    let a : m * up e < 4194304 * down e = less (m * up e) (down e) N (down_pos e) l h in
    record { below = lt_plus m e (limit false) 4194304 (refl, refl) ∙ lt-ltb (m * up e) (4194304 * down e) a; above = plus_above m e }
small_within (fin true m e) N l h =
    let a : m * up e < 4194304 * down e = less (m * up e) (down e) N (down_pos e) l h in
    record { below = minus_below m e; above = gt_minus m e (limit true) 4194304 (refl, refl) ∙ lt-ltb (m * up e) (4194304 * down e) a }

pub whole_within : (x : Float) (n : ℤ) → IsWhole x n → nat_abs n < 2 ^ 22 → Within x
whole_within x n w h = small_within x (nat_abs n) h (small x n w)
  where
    small : (x : Float) (n : ℤ) → IsWhole x n → Small x (nat_abs n)
    small nan n w = w
    small (inf s) n w = w
    small (fin s m e) n w = subst (λ (k : ℕ). m * up e ≤ k * down e) (sym (ap nat_abs w.2 ∙ abs_signed s w.0)) (le_of_eq w.1)

-- by the floor
pub floor_within : (x : Float) → T (finite x) → plus_of (floor_z x) + 1 < 2 ^ 22 → minus_of (floor_z x) < 2 ^ 22 → Within x
floor_within nan f p q = absurd f
floor_within (inf s) f p q = absurd f
floor_within (fin false m e) f p q = small_within (fin false m e) (m * up e / down e + 1) (unfold floor_z in p) (top (m * up e) (down e) (down_pos e))
  where
    top : (A D : ℕ) → 0 < D → A ≤ (A / D + 1) * D
    top A D h = omega (arith, add-mul (A / D) 1 D, one-mul D, div-add-mod' A D, mod-lt A h)
floor_within (fin true m e) f p q =
    small_within (fin true m e) (up_div (m * up e) (down e))
    (subst (λ (k : ℕ). k < 2 ^ 22) (neg_minus (pos (up_div (m * up e) (down e)))) (unfold floor_z in q)) (up_reach (m * up e) (down e) (down_pos e))
