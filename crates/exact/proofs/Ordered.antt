-- A coordinate in tiles keeps its order: of two checked coordinates, what is not above the other is not above it in tiles. Assumes nothing.
-- Only "not below" is said: two coordinates that differ can round to one number of tiles.
use mathlib.Core.Path.{◌≡◌, refl, sym, ap, ◌∙◌, subst}
use mathlib.Core.Bool.{Bool, true, false, not, true≢false}
use Prim.Native.Nat.{ℕ, ◌+◌, ◌*◌, ◌≤◌, ◌<◌}
use native.Mathlib.Nat.{mul-pos, zero-mul, mul-le-mul_right, eq_of_mul-eq-mul_right}
use native.Mathlib.Omega.{arith}
use lib.Dec.{T, lit<}
use lib.IntN.{negsuc}
use lib.Ieee.{Float, nan, inf, fin, binary32, up, down, below, unlike, round, mul, lt, le}
use lib.Ieee.Fits.{down_pos}
use lib.Ieee.Bits.{is_true}
use lib.Ieee.Order.{round_mono}
use lib.Ieee.Scale.{round_same, finite}
use borrow.Author.Tests.{ltb-false}
use Rattle.float32.specs.Meaning.{whole, signed}
use Rattle.float32.proofs.Order.{not_lt_of_le, le_of_not_lt}
use Rattle.float32.proofs.MinMax.{le_of_lt}
use Rattle.exact.specs.Reach.{in_reach, scaled}
use Rattle.exact.proofs.Exact.{round_signed}
use Rattle.exact.proofs.Bounds.{finite_number, reach_finite, scale_is}

-- ---- signs
-- what is not negative is not below what is not positive
plus_minus : (x y : Float) → lt (signed false x) (signed true y) ≡ false
unfolding lt signed
plus_minus nan y = refl
plus_minus (inf s) nan = refl
plus_minus (inf s) (inf t) = refl
plus_minus (inf s) (fin t n d) = refl
plus_minus (fin s m e) nan = refl
plus_minus (fin s m e) (inf t) = refl
plus_minus (fin s m e) (fin t n d) = refl

-- below zero the order turns
both_minus : (x y : Float) → lt (signed true x) (signed true y) ≡ lt (signed false y) (signed false x)
unfolding lt signed
both_minus nan nan = refl
both_minus nan (inf t) = refl
both_minus nan (fin t n d) = refl
both_minus (inf s) nan = refl
both_minus (inf s) (inf t) = refl
both_minus (inf s) (fin t n d) = refl
both_minus (fin s m e) nan = refl
both_minus (fin s m e) (inf t) = refl
both_minus (fin s m e) (fin t n d) = refl

zeros : lt (whole true 0) (whole false 0) ≡ false
unfolding round lt
zeros = refl

-- ---- rounding keeps the order of the fractions ±a / c and ±b / d
plus_order : (a c b d : ℕ) → 0 < c → 0 < d → a * d ≤ b * c → lt (round binary32 false b d) (round binary32 false a c) ≡ false
plus_order a c b d C D h =
    not_lt_of_le (round binary32 false a c) (round binary32 false b d) (is_true (le (round binary32 false a c) (round binary32 false b d)) (round_mono binary32 a c b d C D h))

minus_order : (a c b d : ℕ) → 0 < c → 0 < d → b * c ≤ a * d → lt (round binary32 true b d) (round binary32 true a c) ≡ false
minus_order a c b d C D h =
    rw (round_signed true b d, round_signed true a c)
    (both_minus (round binary32 false b d) (round binary32 false a c)
    ∙ rw (sym (round_signed false a c), sym (round_signed false b d)) (plus_order b d a c D C h))

no_size : (s : Bool) (a c : ℕ) → 0 < c → a ≡ 0 → round binary32 s a c ≡ whole s 0
no_size s a c C h = round_same binary32 s a c 0 1 C (lit< tt) (omega arith)

-- y : x is a / c : b / d, so that the sizes compare as y and x do
module _ (a c b d x y k : ℕ) (C : 0 < c) (D : 0 < d) (left : y * k ≡ a * d) (right : x * k ≡ b * c) where
  rounded_order : (s t : Bool) → below t x s y ≡ false → lt (round binary32 t b d) (round binary32 s a c) ≡ false
  rounded_order false false h = plus_order a c b d C D (omega (arith, left, right, mul-le-mul_right k (ltb-false x y h)))
  rounded_order true true h = minus_order a c b d C D (omega (arith, left, right, mul-le-mul_right k (ltb-false y x h)))
  rounded_order true false h = rw (round_signed false b d, round_signed true a c) (plus_minus (round binary32 false b d) (round binary32 false a c))
  rounded_order false true h =
      rw (no_size true b d D (none x b c C right (least x y (ltb-false 0 (x + y) h))), no_size false a c C (none y a d D left (most x y (ltb-false 0 (x + y) h)))) zeros
    where
      least : (x y : ℕ) → x + y ≤ 0 → x ≡ 0
      least x y h = omega arith

      most : (x y : ℕ) → x + y ≤ 0 → y ≡ 0
      most x y h = omega arith

      none : (x b c : ℕ) → 0 < c → x * k ≡ b * c → x ≡ 0 → b ≡ 0
      none x b c C e z = eq_of_mul-eq-mul_right c C b 0 (sym e ∙ ap (λ (j : ℕ). j * k) z ∙ zero-mul k ∙ sym (zero-mul c))

-- ---- in tiles
same_sign : (s : Bool) → unlike s false ≡ s
same_sign true = refl
same_sign false = refl

sixteenth : (a d : ℕ) → a * d * 16 ≡ a * 1 * (d * 16)
sixteenth a d = omega arith

product_order : (p q : Float) → T (finite p) → T (finite q) → lt q p ≡ false → lt (mul binary32 q (fin false 1 (negsuc 3))) (mul binary32 p (fin false 1 (negsuc 3))) ≡ false
unfolding mul lt
product_order nan q f g h = absurd f
product_order (inf s) q f g h = absurd f
product_order (fin s m e) nan f g h = absurd g
product_order (fin s m e) (inf t) f g h = absurd g
product_order (fin s m e) (fin t n d) f g h =
    rw (same_sign s, same_sign t)
    (rounded_order (m * up e * 1) (down e * 16) (n * up d * 1) (down d * 16) (n * up d * down e) (m * up e * down d) 16
    (mul-pos (down_pos e) (lit< tt)) (mul-pos (down_pos d) (lit< tt)) (sixteenth (m * up e) (down d)) (sixteenth (n * up d) (down e)) s t h)

-- of any finite numbers
pub scaled_order : (p q : Float) → T (finite p) → T (finite q) → lt q p ≡ false → lt (scaled q) (scaled p) ≡ false
scaled_order p q f g h = subst (λ (k : Float). lt (mul binary32 q k) (mul binary32 p k) ≡ false) (sym scale_is) (product_order p q f g h)

pub scaled_ordered : (p q : Float) → in_reach p ≡ true → in_reach q ≡ true → le p q ≡ true → lt (scaled q) (scaled p) ≡ false
scaled_ordered p q f g h = scaled_order p q (reach_finite p f) (reach_finite q g) (not_lt_of_le p q h)

-- and the other way round: both are numbers, so one is at most the other
pub scaled_turned : (p q : Float) → in_reach p ≡ true → in_reach q ≡ true → le p q ≡ false → lt (scaled p) (scaled q) ≡ false
scaled_turned p q f g h = scaled_ordered q p g f (le_of_lt q p (go (lt q p) refl))
  where
    go : (b : Bool) → lt q p ≡ b → b ≡ true
    go true e = refl
    go false e = absurd (true≢false (sym (le_of_not_lt p q (finite_number p (reach_finite p f)) (finite_number q (reach_finite q g)) e) ∙ h))
