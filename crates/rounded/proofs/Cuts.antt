-- The smaller and the larger of two floats, and what is cut to 0..1. Assumes nothing.
--     smaller_first                 of two floats the smaller is not above the larger
--     cut_high, cut_low             what is 1 or more is cut to 1, and what is 0 or less to a zero
--     up_to_one, from_zero          the smaller of 1 and what isn't below it is 1, and the larger of 0 and what isn't above it is +0
use mathlib.Core.Path.{◌≡◌, refl, sym, ap, ◌∙◌}
use mathlib.Core.Bool.{Bool, true, false, not, cond, ◌||◌, beq, true≢false, false≢true}
use Prim.Native.Nat.{ℕ, ◌*◌}
use native.Mathlib.Nat.{mul-one, zero-mul}
use native.Mathlib.Omega.{arith}
use lib.Dec.{T, eqb}
use lib.Ieee.{Float, nan, inf, fin, binary32, up, down, lt, eq, le, fits, of_bits, is_nan}
use lib.Ieee.Bits.{of_bits-fits}
use lib.Ieee.Fits.{up_pos}
use borrow.Author.Tests.{eqb-true}
use Rattle.util.specs.Constants as Number
use Rattle.float32.specs.Meaning.{min_of, max_of, clamp_of, sign_of}
use Rattle.float32.proofs.Alike.{IsZero, unlike_zeros}
use Rattle.float32.proofs.MinMax.{min_last, max_last, min_left, max_left, max_right, min_of_nan, max_of_nan}
use Rattle.float32.proofs.Order.{not_lt_of_le, le_of_not_lt, le_right, lt_irreflexive}
use Rattle.float32.proofs.Same.{same_sign}
use Rattle.float32.proofs.Tests.{no, first}
use Rattle.rounded.proofs.Rises.{nought, at_most_trans}
use Rattle.rounded.proofs.Numbers.{zero_number, one_number}

pub smaller_first : (x y : Float) → lt (max_of x y) (min_of x y) ≡ false
smaller_first x y = go (is_nan x) refl
  where
    go : (s : Bool) → is_nan x ≡ s → lt (max_of x y) (min_of x y) ≡ false
    go true e = rw (max_of_nan x y e, min_of_nan x y e) (lt_irreflexive y)
    go false e =
        at_most_trans (min_of x y) x (max_of x y) (no e) (not_lt_of_le (min_of x y) x (min_left x y (no e))) (not_lt_of_le x (max_of x y) (max_left x y (no e)))

-- ---- 0 and 1
zero_one : lt Number.one Number.zero ≡ false
unfolding of_bits lt
zero_one = refl

ends : le Number.zero Number.one ≡ true
unfolding of_bits le lt
ends = refl

some : (n : ℕ) → n ≡ 0 → n ≡ 1 → ⊥
some n e d = omega arith

pub one_no_zero : IsZero Number.one → ⊥
unfolding of_bits
one_no_zero e = some 1 e refl

-- the larger of a float and 0 is a number
pub from_zero_number : (x : Float) → T (not (is_nan (max_of x Number.zero)))
from_zero_number x = le_right Number.zero (max_of x Number.zero) (max_right x Number.zero zero_number)

-- of two numbers neither of which is below the other
level : (x y : Float) → T (not (is_nan x)) → T (not (is_nan y)) → lt x y ≡ false → lt y x ≡ false → eq x y ≡ true
level x y n k h l = sym (ap (λ (b : Bool). b || eq x y) h) ∙ as_le ∙ le_of_not_lt x y n k l
  where
    as_le : (lt x y || eq x y) ≡ le x y
    as_le = unfold le in refl

zero_of : (x : Float) → eq x Number.zero ≡ true → IsZero x
unfolding eq of_bits
zero_of nan h = absurd (false≢true h)
zero_of (inf s) h = absurd (false≢true h)
zero_of (fin s m e) h =
    let i = eqb-true (m * up e * 1) (0 * 1 * down e) (first (eqb (m * up e * 1) (0 * 1 * down e)) (beq s false || eqb (m * up e * 1) 0) h) in
    nought m (up e) (up_pos e) (omega (arith, i, mul-one (m * up e), zero-mul (down e)))

-- what is 1 or more is cut to 1, and what is 0 or less to a zero
pub cut_high : (x : Float) → T (fits binary32 x) → T (not (is_nan x)) → lt x Number.one ≡ false → clamp_of x Number.zero Number.one ≡ Number.one
unfolding clamp_of
cut_high x f n h = rw (ends, at_most_trans Number.zero Number.one x one_number zero_one h) (go (lt Number.one x) refl)
  where
    same : (s : Bool) → sign_of x ≡ s → lt Number.one x ≡ false → x ≡ Number.one
    same false e l = same_sign x Number.one f (of_bits-fits binary32 0x3f80_0000) (level x Number.one n one_number h l) (e ∙ (unfold of_bits sign_of in refl))
    same true e l = absurd (one_no_zero (unlike_zeros x Number.one (level x Number.one n one_number h l) (e ∙ (unfold of_bits sign_of in refl))).1)

    go : (b : Bool) → lt Number.one x ≡ b → cond b Number.one x ≡ Number.one
    go true e = refl
    go false e = same (sign_of x) refl e

pub cut_low : (x : Float) → T (not (is_nan x)) → lt Number.zero x ≡ false → IsZero (clamp_of x Number.zero Number.one)
unfolding clamp_of
cut_low x n h = rw (ends, at_most_trans x Number.zero Number.one zero_number h zero_one) (go (lt x Number.zero) refl)
  where
    go : (b : Bool) → lt x Number.zero ≡ b → IsZero (cond b Number.zero x)
    go true e = unfold of_bits in refl
    go false e = zero_of x (level x Number.zero n zero_number e h)

pub up_to_one : (x : Float) → T (fits binary32 x) → lt x Number.one ≡ false → min_of x Number.one ≡ Number.one
up_to_one x f h = min_last x Number.one f (of_bits-fits binary32 0x3f80_0000) one_number one_no_zero h

-- what isn't above 0 lies below 1
pub under_one : (x : Float) → T (not (is_nan x)) → lt Number.zero x ≡ false → lt x Number.one ≡ true
under_one x n h = go (lt x Number.one) refl
  where
    strict : lt Number.zero Number.one ≡ true
    strict = unfold of_bits lt in refl

    go : (b : Bool) → lt x Number.one ≡ b → lt x Number.one ≡ true
    go true e = e
    go false e = absurd (true≢false (sym strict ∙ at_most_trans Number.one x Number.zero n e h))

pub from_zero : (x : Float) → T (fits binary32 x) → lt Number.zero x ≡ false → max_of x Number.zero ≡ Number.zero
unfolding of_bits
from_zero x f h = max_last x f h
