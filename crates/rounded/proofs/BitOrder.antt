-- The bit patterns of floats from +0 up are ordered as the floats are. Assumes nothing.
--     bits_rise      a float that isn't below another has a pattern that isn't below the other's
--     bits_climb     a float above another has a pattern above the other's
use mathlib.Core.Path.{◌≡◌, sym, ap, ◌∙◌, subst}
use mathlib.Core.Bool.{Bool, true, false, true≢false}
use mathlib.Core.Logic.{◌⊎◌, inl, inr}
use Prim.Native.Nat.{ℕ, ◌+◌, ◌-◌, ◌*◌, ◌/◌, ◌^◌, ◌≤◌, ◌<◌}
use native.Mathlib.Nat.{le_of_lt, le_antisymm, lt_of_le_of_lt, le-div_iff_mul-le, mul_right_comm, mul-le-mul_right}
use native.Mathlib.Omega.{arith}
use lib.Dec.{T}
use lib.Pow.{pow_pos, pow-add}
use lib.IntN.{ℤ}
use lib.Ieee.{Float, nan, inf, fin, binary32, up, down, size, lt, fits, of_bits, to_bits}
use lib.Ieee.Digits.{size-lt, size-le, size_reaches}
use lib.Ieee.Fits.{down_pos, kept-lt}
use lib.Ieee.Nearest.{div_mono}
use borrow.Author.Tests.{ltb-true, ltb-false}
use Rattle.float32.proofs.Fields.{pattern}
use Rattle.float32.proofs.Order.{lt_irreflexive}
use Rattle.float32.proofs.Tests.{below_or_not}

-- finite, with the sign plus
abbrev pub plain : Float → Bool
plain nan = false
plain (inf s) = false
plain (fin true m e) = false
plain (fin false m e) = true

-- ---- the pattern of n of the smallest values, its sign's bit 0: of the digits 24 are kept, and the rest dropped
abbrev dropped : ℕ → ℕ
dropped n = size n - 24

abbrev pattern_of : ℕ → ℕ
pattern_of n = 0 + dropped n * 8388608 + n / 2 ^ dropped n

size_rises : (a b : ℕ) → a ≤ b → size a ≤ size b
size_rises a b h = size-le a (size b) (lt_of_le_of_lt h (size-lt b))

-- where a digit is dropped, the first that is kept is 1
leads : (b : ℕ) → 0 < dropped b → 8388608 ≤ b / 2 ^ dropped b
leads b h =
    let j : 2 ^ (23 + dropped b) ≤ b = size_reaches b (23 + dropped b) (omega arith) in
    (le-div_iff_mul-le (pow_pos (dropped b))).1 (subst (λ (z : ℕ). z ≤ b) (pow-add 2 23 (dropped b)) j)

pattern_rises : (a b : ℕ) → a ≤ b → pattern_of a ≤ pattern_of b
pattern_rises a b h = go (below_or_not (dropped a) (dropped b))
  where
    same : (k : ℕ) → a / 2 ^ k ≤ b / 2 ^ k
    same k = div_mono a (2 ^ k) b (2 ^ k) (pow_pos k) (pow_pos k) (mul-le-mul_right (2 ^ k) h)

    level : dropped b ≤ dropped a → dropped a ≡ dropped b
    level l = omega (arith, size_rises a b h)

    more : (i j p q : ℕ) → i < j → p < 2 ^ 24 → 8388608 ≤ q → 0 + i * 8388608 + p ≤ 0 + j * 8388608 + q
    more i j p q l u v = omega arith

    go : (dropped a < dropped b) ⊎ (dropped b ≤ dropped a) → pattern_of a ≤ pattern_of b
    go (inl l) = more (dropped a) (dropped b) (a / 2 ^ dropped a) (b / 2 ^ dropped b) l (kept-lt 24 a) (leads b (omega arith))
    go (inr l) = subst (λ (k : ℕ). 0 + dropped a * 8388608 + a / 2 ^ dropped a ≤ 0 + k * 8388608 + b / 2 ^ k) (level l) (let s = same (dropped a) in omega (arith, s))

size_bits : (m : ℕ) (e : ℤ) (n : ℕ) (d : ℤ) → m * up e * down d ≤ n * up d * down e → to_bits binary32 (fin false m e) ≤ to_bits binary32 (fin false n d)
unfolding to_bits
size_bits m e n d h =
    pattern_rises (m * up e * 2 ^ 149 / down e) (n * up d * 2 ^ 149 / down d)
    (div_mono (m * up e * 2 ^ 149) (down e) (n * up d * 2 ^ 149) (down d) (down_pos e) (down_pos d)
    (subst (λ (z : ℕ). z ≤ n * up d * 2 ^ 149 * down e) (mul_right_comm (m * up e) (down d) (2 ^ 149))
    (subst (λ (z : ℕ). m * up e * down d * 2 ^ 149 ≤ z) (mul_right_comm (n * up d) (down e) (2 ^ 149)) (mul-le-mul_right (2 ^ 149) h))))

-- ---- of two floats
pub bits_rise : (x y : Float) → T (plain x) → T (plain y) → lt y x ≡ false → to_bits binary32 x ≤ to_bits binary32 y
unfolding lt
bits_rise nan y p q h = absurd p
bits_rise (inf s) y p q h = absurd p
bits_rise (fin true m e) y p q h = absurd p
bits_rise (fin false m e) nan p q h = absurd q
bits_rise (fin false m e) (inf s) p q h = absurd q
bits_rise (fin false m e) (fin true n d) p q h = absurd q
bits_rise (fin false m e) (fin false n d) p q h = size_bits m e n d (ltb-false (n * up d * down e) (m * up e * down d) h)

below_bits : (x y : Float) → T (plain x) → T (plain y) → lt x y ≡ true → to_bits binary32 x ≤ to_bits binary32 y
unfolding lt
below_bits nan y p q h = absurd p
below_bits (inf s) y p q h = absurd p
below_bits (fin true m e) y p q h = absurd p
below_bits (fin false m e) nan p q h = absurd q
below_bits (fin false m e) (inf s) p q h = absurd q
below_bits (fin false m e) (fin true n d) p q h = absurd q
below_bits (fin false m e) (fin false n d) p q h = size_bits m e n d (le_of_lt (ltb-true (m * up e * down d) (n * up d * down e) h))

pub bits_climb : (x y : Float) → T (plain x) → T (plain y) → T (fits binary32 x) → T (fits binary32 y) → lt x y ≡ true → to_bits binary32 x < to_bits binary32 y
bits_climb x y p q f g h = go (below_or_not (to_bits binary32 x) (to_bits binary32 y))
  where
    go : (to_bits binary32 x < to_bits binary32 y) ⊎ (to_bits binary32 y ≤ to_bits binary32 x) → to_bits binary32 x < to_bits binary32 y
    go (inl l) = l
    go (inr l) =
        let e : x ≡ y = sym (pattern x f) ∙ ap (of_bits binary32) (le_antisymm (below_bits x y p q h) l) ∙ pattern y g in
        absurd (true≢false (sym (subst (λ (z : Float). lt x z ≡ true) (sym e) h) ∙ lt_irreflexive x))
