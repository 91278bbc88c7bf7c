-- A float that is cut to 0..1, multiplied by 255, rounded and cast: the same by picks and by the bits of two sums (`TwoSums.antt`). Assumes nothing.
-- Of `fin s m e` the size is A / D, with A = m * up e and D = down e.
use mathlib.Core.Path.{◌≡◌, refl, sym, ap, ◌∙◌, subst}
use mathlib.Core.Bool.{Bool, true, false, not, cond}
use Prim.Native.Nat.{ℕ, ◌-◌, ◌*◌, ◌/◌, ◌≤◌, ◌<◌}
use native.Mathlib.Nat.{le_of_lt, lt_trans, mul-one, mul-div_cancel}
use native.Mathlib.Omega.{arith}
use lib.Dec.{T, ltb, lit<, lit≤}
use lib.IntN.{ℤ, pos}
use lib.Ieee.{Float, nan, inf, fin, binary32, up, down, lt, le, mul, round, fits, is_nan, of_bits, to_unsigned}
use lib.Ieee.Bits.{is_true}
use lib.Ieee.Fits.{down_pos, mul-fits}
use lib.Ieee.Order.{round_mono}
use borrow.Author.Tests.{le-ltb, ltb-true, ltb-false}
use Rattle.float32.specs.Meaning.{whole, near_div, clamp_of, round_of}
use Rattle.float32.proofs.Floors.{lt_plus, gt_plus}
use Rattle.float32.proofs.Laws.{size_plus, whole_u32}
use Rattle.float32.proofs.Magic.{own, div_is}
use Rattle.util.specs.Constants.{zero, one, byte_most}
use Rattle.rounded.proofs.Shapes.{shape}
use Rattle.rounded.proofs.Nearest.{many, cast_of, top_size, one_size, nearest_small, minus_cast, nan_cast, times}
use Rattle.rounded.proofs.BitOrder.{plain}
use Rattle.rounded.proofs.TwoSums.{parted_bits, lift, bits, lift_plain, bits_low, bits_high}

-- ---- what stands on the way
-- at least 0, a NaN and -0 too; at most 1; times 255
abbrev pub lowest : Float → Float
lowest v = cond (lt zero v) v zero

abbrev pub kept : Float → Float
kept v = cond (lt one (lowest v)) one (lowest v)

abbrev pub scaled : Float → Float
scaled v = mul binary32 (kept v) byte_most

-- ---- what is kept lies from +0 to 1
record Plus (N : ℕ) (y : Float) : Type 0 where
  m : ℕ
  e : ℤ
  is : y ≡ fin false m e
  most : m * up e ≤ N * down e

plus_zero : Plus 1 zero
unfolding of_bits
plus_zero = record { m = 0; e = pos 0; is = refl; most = lit≤ tt }

plus_one : Plus 1 one
unfolding of_bits
plus_one = record { m = 1; e = pos 0; is = refl; most = lit≤ tt }

kept_plus : (v : Float) → Plus 1 (kept v)
unfolding of_bits lt
kept_plus nan = plus_zero
kept_plus (inf true) = plus_zero
kept_plus (inf false) = plus_one
kept_plus (fin true m e) = plus_zero
kept_plus (fin false m e) = go (lt zero (fin false m e))
  where
    high : (b : Bool) → lt one (fin false m e) ≡ b → Plus 1 (cond b one (fin false m e))
    high true i = plus_one
    high false i = record { m = m; e = e; is = refl; most = ltb-false (1 * down e) (m * up e) (sym (gt_plus m e one 1 (refl, refl)) ∙ i) }

    go : (b : Bool) → Plus 1 (cond (lt one (cond b (fin false m e) zero)) one (cond b (fin false m e) zero))
    go true = high (lt one (fin false m e)) refl
    go false = plus_zero

-- the same by the other comparison, which a processor does in one step: both leave 1 where it is 1
pub kept_by : (v : Float) → T (fits binary32 v) → cond (lt (lowest v) one) (lowest v) one ≡ kept v
unfolding of_bits lt
kept_by nan h = refl
kept_by (inf true) h = refl
kept_by (inf false) h = refl
kept_by (fin true m e) h = refl
kept_by (fin false m e) h = go (lt zero (fin false m e))
  where
    x : Float
    x = fin false m e

    level : (A D : ℕ) → 1 * D ≤ A → A ≤ 1 * D → A ≡ 1 * D
    level A D p q = omega arith

    not_both : (A D : ℕ) → A < 1 * D → 1 * D < A → ⊥
    not_both A D p q = omega arith

    is_one : m * up e ≡ 1 * down e → one ≡ x
    is_one z = sym one_size ∙ ap (whole false) (sym (ap (λ (n : ℕ). n / down e) z ∙ mul-div_cancel 1 (down_pos e))) ∙ sym (own false m e 1 h z)

    both : (a b : Bool) → lt x one ≡ a → lt one x ≡ b → cond a x one ≡ cond b one x
    both true true i j =
        absurd
        (not_both (m * up e) (down e) (ltb-true (m * up e) (1 * down e) (sym (lt_plus m e one 1 (refl, refl)) ∙ i))
        (ltb-true (1 * down e) (m * up e) (sym (gt_plus m e one 1 (refl, refl)) ∙ j)))
    both true false i j = refl
    both false true i j = refl
    both false false i j =
        is_one
        (level (m * up e) (down e) (ltb-false (m * up e) (1 * down e) (sym (lt_plus m e one 1 (refl, refl)) ∙ i))
        (ltb-false (1 * down e) (m * up e) (sym (gt_plus m e one 1 (refl, refl)) ∙ j)))

    go : (b : Bool) → cond (lt (cond b x zero) one) (cond b x zero) one ≡ cond (lt one (cond b x zero)) one (cond b x zero)
    go true = both (lt x one) (lt one x) refl refl
    go false = refl

-- ---- times 255 it lies from +0 to 255
abbrev Most : Float → Type 0
Most z = T (le z (whole false 255)) → Plus 255 z

most_inf : Most (inf false)
unfolding le
most_inf h = absurd (subst (λ (z : Float). T (le (inf false) z)) top_size h)

most_fin : (m : ℕ) (e : ℤ) → Most (fin false m e)
most_fin m e h = record { m = m; e = e; is = refl; most = size_plus m e 255 (omega arith) (is_true _ h) }

round_plus : (a c : ℕ) → 0 < c → a ≤ 255 * c → Plus 255 (round binary32 false a c)
round_plus a c p h = shape Most most_inf most_fin binary32 a c (round_mono binary32 a c 255 1 p (omega arith) (omega (arith, mul-one a)))

scaled_plus : (v : Float) → Plus 255 (scaled v)
scaled_plus v =
    let k = kept_plus v in
    subst (Plus 255) (sym (ap (λ (z : Float). mul binary32 z byte_most) k.is ∙ times false k.m k.e))
    (round_plus (k.m * up k.e * 255) (down k.e * 1) (omega (arith, down_pos k.e, mul-one (down k.e))) (omega (arith, k.most, mul-one (down k.e))))

-- ---- the whole number nearest to it, by the bits of two sums
-- what they say of x: b is x rounded
pub record Lifted (b : ℕ) (x : Float) : Type 0 where
  pub real : T (not (is_nan (lift x)))
  pub least : parted_bits ≤ bits x
  pub is : (bits x - parted_bits) / many ≡ b

no_nan : (y : Float) → T (plain y) → T (not (is_nan y))
unfolding is_nan
no_nan nan p = absurd p
no_nan (inf s) p = absurd p
no_nan (fin s m e) p = tt

lifted_plus : (m : ℕ) (e : ℤ) → T (fits binary32 (fin false m e)) → m * up e ≤ 255 * down e → Lifted (to_unsigned 32 (round_of (fin false m e))) (fin false m e)
unfolding round_of
lifted_plus m e f l =
    let n = near_div (m * up e) (down e) in
    let lo = bits_low m e f l in
    let hi = bits_high m e f l in
    let u = whole_u32 n (le_of_lt (lt_trans (nearest_small (m * up e) (down e) (down_pos e) l) (lit< tt))) in
    record {
      real = no_nan (lift (fin false m e)) (lift_plain m e f l);
      least = omega (arith, lo);
      is = div_is (bits (fin false m e) - parted_bits) many n (omega (arith, lo)) (omega (arith, lo, hi)) ∙ sym u;
    }

-- ---- the byte of what is kept
zero_byte : cast_of zero ≡ 0
unfolding of_bits mul round_of round to_unsigned
zero_byte = refl

zero_whole : whole false 0 ≡ zero
unfolding of_bits round
zero_whole = refl

kept_byte : (v : Float) → T (fits binary32 v) → cast_of (clamp_of v zero one) ≡ cast_of (kept v)
unfolding clamp_of of_bits lt le
kept_byte nan h = nan_cast ∙ sym zero_byte
kept_byte (inf true) h = refl
kept_byte (inf false) h = refl
kept_byte (fin true m e) h = go (lt (fin true m e) zero)
  where
    go : (b : Bool) → cast_of (cond b zero (fin true m e)) ≡ cast_of zero
    go true = refl
    go false = ap (λ (z : Float). to_unsigned 32 (round_of z)) (times true m e) ∙ minus_cast (m * up e * 255) (down e * 1) ∙ sym zero_byte
kept_byte (fin false m e) h = go (lt zero (fin false m e)) refl
  where
    not_below : lt (fin false m e) zero ≡ false
    not_below = lt_plus m e zero 0 (refl, refl) ∙ none (m * up e) (down e)
      where
        none : (A D : ℕ) → ltb A (0 * D) ≡ false
        none A D = le-ltb A (0 * D) (omega arith)

    no_more : (A D : ℕ) → A ≤ 0 * D → A ≡ 0 * D
    no_more A D h = omega arith

    is_zero : lt zero (fin false m e) ≡ false → zero ≡ fin false m e
    is_zero i =
        let z : m * up e ≡ 0 * down e = no_more (m * up e) (down e) (ltb-false (0 * down e) (m * up e) (sym (gt_plus m e zero 0 (refl, refl)) ∙ i)) in
        sym zero_whole ∙ ap (whole false) (sym (ap (λ (n : ℕ). n / down e) z ∙ mul-div_cancel 0 (down_pos e))) ∙ sym (own false m e 0 h z)

    go : (b : Bool) → lt zero (fin false m e) ≡ b
        → cast_of (cond (lt (fin false m e) zero) zero (cond (lt one (fin false m e)) one (fin false m e)))
        ≡ cast_of (cond (lt one (cond b (fin false m e) zero)) one (cond b (fin false m e) zero))
    go true i = rw not_below refl
    go false i = subst (λ (z : Float). cast_of (cond (lt z zero) zero (cond (lt one z) one z)) ≡ cast_of zero) (is_zero i) refl

-- ---- all of it
pub lifted : (v x : Float) → T (fits binary32 v) → x ≡ scaled v → Lifted (cast_of (clamp_of v zero one)) x
lifted v x h e =
    let p = scaled_plus v in
    let f = subst (λ (z : Float). T (fits binary32 z)) p.is (mul-fits binary32 (kept v) byte_most) in
    subst (λ (b : ℕ). Lifted b x) (sym (kept_byte v h))
    (subst (λ (z : Float). Lifted (to_unsigned 32 (round_of (scaled v))) z) (sym e)
    (subst (λ (z : Float). Lifted (to_unsigned 32 (round_of z)) z) (sym p.is) (lifted_plus p.m p.e f p.most)))
