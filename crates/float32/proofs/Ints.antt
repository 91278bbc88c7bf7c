-- From a whole number to an `f32`: how many digits are lost, the number of units kept, its bit pattern, and that this is `round`'s answer. Assumes nothing.
--     lost_more, lost_done     one power tried: a unit of 2 ^ k is too small, or is large enough
--     nearest_is               the pattern of the units kept is `of_int` of the number, however the digits lost were counted
use mathlib.Core.Path.{◌≡◌, refl, sym, ap, ◌∙◌}
use mathlib.Core.Bool.{Bool, true, false, not, cond, true≢false}
use mathlib.Core.Logic.{◌⊎◌, inl, inr}
use Prim.Native.Nat.{ℕ, zero, suc, ◌+◌, ◌-◌, ◌*◌, ◌/◌, ◌%◌, ◌^◌, ◌≤◌, ◌<◌, compare, Ordering}
use native.Mathlib.Nat.{
  eq-or-lt_of_le,
  le_trans,
  le_of_eq,
  lt_of_lt_of_le,
  lt_of_le_of_lt,
  lt_of_not-le,
  not-le_of_lt,
  one-mul,
  mul_comm,
  mul_assoc,
  div-one,
  mul-le-mul_right,
  mul-lt-mul_of_pos_right,
  le-div_iff_mul-le,
  div-lt_iff_lt-mul,
}
use native.Mathlib.Omega.{arith}
use lib.Dec.{T, leb, is_le, compare_is_eq, leb→le, nleb→lt, eqb→eq, ltb, lit<}
use lib.Pow.{pow-add, pow_pos, pow_mono, shl_lt, shr_lt}
use lib.IntN.{ℤ, pos, negsuc, nat_abs}
use lib.Signed.{lt_z}
use lib.Ieee.{inf, binary32, size, nearest, odd, units, round, neg, of_int, of_bits, is_nan}
use lib.Ieee.Digits.{size-lt, size-le, size_reaches}
use lib.Ieee.Fits.{round_is, round-fits, nearest-le, eq→eqb}
use lib.Arith.{lt_of_le-ne}
use lib.Ieee.Bits.{of_bits-fits}
use lib.Ieee.Exact.{HasValue, odd_sign}
use lib.Ieee.Nearest.{closest, closest_same, nearest-ge}
use lib.Ieee.Scale.{grid, round_val}
use lib.Ieee.Back.{whole_unique}
use borrow.Author.Tests.{lt-leb, ltb-true}
use Rattle.float32.specs.Inner.{lost_of}
use Rattle.float32.proofs.Cut.{exp_of, fields, field_mid}
use Rattle.float32.proofs.Whole.{reduced, round_no_nan}

-- ---- how many digits are lost
size_gt : (n j : ℕ) → 2 ^ j ≤ n → j < size n
size_gt n j h = lt_of_not-le (λ (g : size n ≤ j). not-le_of_lt (lt_of_lt_of_le (size-lt n) (pow_mono g)) h)

size_is : (n j : ℕ) → 2 ^ j ≤ n → n < 2 ^ suc j → size n ≡ suc j
size_is n j l u = between (size n) j (size_gt n j l) (size-le n (suc j) u)
  where
    between : (z j : ℕ) → j < z → z ≤ suc j → z ≡ suc j
    between z j a b = omega arith

pub lost_few : (n : ℕ) → n < 2 ^ 32 → lost_of n ≤ 8
lost_few n h = few (size n) (size-le n 32 h)
  where
    few : (z : ℕ) → z ≤ 32 → z - 24 ≤ 8
    few z h = omega arith

pub lost_more : (n k : ℕ) → 2 ^ 24 ≤ n / 2 ^ k → k < lost_of n
lost_more n k h = over (size n) k (size_gt n (24 + k) (le_trans (le_of_eq (pow-add 2 24 k)) ((le-div_iff_mul-le (pow_pos k)).0 h)))
  where
    over : (z k : ℕ) → 24 + k < z → k < z - 24
    over z k h = omega arith

pub lost_done : (n k : ℕ) → n / 2 ^ k < 2 ^ 24 → lost_of n ≤ k
lost_done n k h = under (size n) k (size-le n (24 + k) (lt_of_lt_of_le ((div-lt_iff_lt-mul (pow_pos k)).0 h) (le_of_eq (sym (pow-add 2 24 k)))))
  where
    under : (z k : ℕ) → z ≤ 24 + k → z - 24 ≤ k
    under z k h = omega arith

-- ---- how many units are kept: `closest`, by one test
abbrev Cmp : Ordering → ℕ → ℕ → Type 0
Cmp Ordering.lt a b = a < b
Cmp Ordering.eq a b = a ≡ b
Cmp Ordering.gt a b = b < a

cmp : (a b : ℕ) → Cmp (compare a b) a b
cmp a b = go (compare a b) (leb→le a b) (nleb→lt a b) (eqb→eq a b) (λ (e : a ≡ b). eq→eqb e)
  where
    go : (o : Ordering) → (T (is_le o) → a ≤ b) → (T (not (is_le o)) → b < a) → (T (compare_is_eq o) → a ≡ b) → (a ≡ b → T (compare_is_eq o)) → Cmp o a b
    go Ordering.lt h k e n = lt_of_le-ne (h tt) n
    go Ordering.eq h k e n = e tt
    go Ordering.gt h k e n = k tt

pub units_more : (n u : ℕ) → u < n % u * 2 + n / u % 2 → n / u + 1 ≡ closest n u
units_more n u h = go (n / u) (n % u * 2) (compare (n % u * 2) u) (cmp (n % u * 2) u) h
  where
    go : (q r : ℕ) (o : Ordering) → Cmp o r u → u < r + q % 2 → q + 1 ≡ nearest q o
    go q r Ordering.lt l h = absurd (omega arith)
    go q r Ordering.eq l h = omega arith
    go q r Ordering.gt l h = omega arith

pub units_same : (n u : ℕ) → n % u * 2 + n / u % 2 ≤ u → n / u ≡ closest n u
units_same n u h = go (n / u) (n % u * 2) (compare (n % u * 2) u) (cmp (n % u * 2) u) h
  where
    go : (q r : ℕ) (o : Ordering) → Cmp o r u → r + q % 2 ≤ u → q ≡ nearest q o
    go q r Ordering.lt l h = refl
    go q r Ordering.eq l h = omega arith
    go q r Ordering.gt l h = absurd (omega arith)

-- ---- the pattern of m units of 2 ^ k, with m's leading digit at 2 ^ 23, or m itself 2 ^ 24
abbrev pub bits : ℕ → ℕ → ℕ
bits k m = (149 + k) * 8388608 + m

module _ (k m : ℕ) (few : k ≤ 8) (l : 2 ^ 23 ≤ m) (u : m ≤ 2 ^ 24) where
  by_fields : (e t : ℕ) → exp_of (bits k m) ≡ e → bits k m % 8388608 ≡ t → 0 < e → e < 255 → HasValue (of_bits binary32 (bits k m)) false ((8388608 + t) * 2 ^ (e - 1)) (2 ^ 149)
  by_fields e t p q a b =
      let plus : leb 2147483648 (bits k m) ≡ false = lt-leb 2147483648 (bits k m) (omega arith) in
      let is : of_bits binary32 (bits k m) ≡ odd 24 false (8388608 + t) (e - 1) 149 =
      fields (bits k m) ∙ rw (plus, p, q) (field_mid false e t a b) in
      rw is (odd_sign 24 false (8388608 + t) (e - 1) 149)

  bits_value : HasValue (of_bits binary32 (bits k m)) false (m * 2 ^ (k + 149)) (2 ^ 149)
  bits_value = go (eq-or-lt_of_le u)
    where
      go : (m ≡ 2 ^ 24) ⊎ (m < 2 ^ 24) → HasValue (of_bits binary32 (bits k m)) false (m * 2 ^ (k + 149)) (2 ^ 149)
      go (inl e) =
          let v : HasValue (of_bits binary32 (bits k m)) false ((8388608 + 0) * 2 ^ (151 + k - 1)) (2 ^ 149) = by_fields (151 + k) 0 (omega arith) (omega arith) (omega arith) (omega arith) in
          let j : 151 + k - 1 ≡ 1 + (k + 149) = omega arith in
          let w : (8388608 + 0) * 2 ^ (151 + k - 1) ≡ m * 2 ^ (k + 149) = rw (j, pow-add 2 1, e) (sym (mul_assoc 8388608 2 (2 ^ (k + 149)))) in
          rw w at v
      go (inr h) =
          let v : HasValue (of_bits binary32 (bits k m)) false ((8388608 + (m - 8388608)) * 2 ^ (150 + k - 1)) (2 ^ 149) = by_fields (150 + k) (m - 8388608)
          (omega arith) (omega arith) (omega arith) (omega arith) in
          let t : 8388608 + (m - 8388608) ≡ m = omega arith in
          let e : 150 + k - 1 ≡ k + 149 = omega arith in
          rw (t, e) at v

-- ---- what `round` keeps of an n whose leading digit stands at 2 ^ (23 + k)
module _ (n k : ℕ) (leads : 2 ^ (23 + k) ≤ n) (ends : n < 2 ^ (24 + k)) where
  -- in units of 2 ^ -149 n has 149 digits more, and as many more are dropped
  drop_is : size (n * 2 ^ 149 / 1) - 24 ≡ k + 149
  drop_is =
      let l : 2 ^ (23 + k + 149) ≤ n * 2 ^ 149 / 1 = le_trans (le_of_eq (pow-add 2 (23 + k) 149)) (le_trans (mul-le-mul_right (2 ^ 149) leads) (le_of_eq (sym (div-one (n * 2 ^ 149))))) in
      let u : n * 2 ^ 149 / 1 < 2 ^ (24 + k + 149) = lt_of_le_of_lt (le_of_eq (div-one (n * 2 ^ 149)))
      (lt_of_lt_of_le (mul-lt-mul_of_pos_right ends (pow_pos 149)) (le_of_eq (sym (pow-add 2 (24 + k) 149)))) in
      let e : 24 + k + 149 ≡ suc (23 + k + 149) = omega arith in
      let z : size (n * 2 ^ 149 / 1) ≡ suc (23 + k + 149) = size_is _ (23 + k + 149) l (rw e at u) in
      omega arith

  kept_is : grid binary32 n 1 ≡ closest n (2 ^ k) * 2 ^ (k + 149)
  kept_is =
      let e : n * 2 ^ 149 * 2 ^ k ≡ n * (1 * 2 ^ (k + 149)) = rw (one-mul, pow-add 2 k 149) (mul_assoc n (2 ^ 149) (2 ^ k) ∙ ap (λ (z : ℕ). n * z) (mul_comm (2 ^ 149) (2 ^ k))) in
      ap (λ (j : ℕ). closest (n * 2 ^ 149) (1 * 2 ^ j) * 2 ^ j) drop_is
      ∙ ap (λ (m : ℕ). m * 2 ^ (k + 149)) (closest_same (n * 2 ^ 149) (1 * 2 ^ (k + 149)) n (2 ^ k) (rw one-mul (pow_pos (k + 149))) (pow_pos k) e)

  kept_least : 2 ^ 23 ≤ closest n (2 ^ k)
  kept_least = le_trans ((le-div_iff_mul-le (pow_pos k)).1 (le_trans (le_of_eq (sym (pow-add 2 23 k))) leads)) (nearest-ge (n / 2 ^ k) (compare (n % 2 ^ k * 2) (2 ^ k)))

  kept_most : closest n (2 ^ k) ≤ 2 ^ 24
  kept_most = le_trans (nearest-le (n / 2 ^ k) (compare (n % 2 ^ k * 2) (2 ^ k))) ((div-lt_iff_lt-mul (pow_pos k)).1 (lt_of_lt_of_le ends (le_of_eq (pow-add 2 24 k))))

  nearest_value : k ≤ 8 → HasValue (of_bits binary32 (bits k (closest n (2 ^ k)))) false (closest n (2 ^ k) * 2 ^ (k + 149)) (2 ^ 149)
  nearest_value few = bits_value k (closest n (2 ^ k)) few kept_least kept_most

  nearest_same : k ≤ 8 → of_bits binary32 (bits k (closest n (2 ^ k))) ≡ round binary32 false n 1
  nearest_same few =
      let m = closest n (2 ^ k) in
      let e : m * 2 ^ (k + 149) ≡ m * 2 ^ k * 2 ^ 149 = ap (λ (z : ℕ). m * z) (pow-add 2 k 149) ∙ sym (mul_assoc m (2 ^ k) (2 ^ 149)) in
      let fine : m * 2 ^ (k + 149) < 2 ^ 277 = lt_of_lt_of_le (shl_lt 25 (k + 149) (lt_of_le_of_lt kept_most (lit< tt))) (pow_mono (room few)) in
      let v : HasValue (round binary32 false n 1) false (m * 2 ^ (k + 149)) (2 ^ 149) = rw kept_is at (round_val binary32 n 1 (rw kept_is fine)) in
      whole_unique binary32 (of_bits binary32 (bits k m)) (round binary32 false n 1) false (m * 2 ^ k) (of_bits-fits binary32 (bits k m)) (round-fits binary32 false n 1)
      (reduced (of_bits binary32 (bits k m)) false (m * 2 ^ (k + 149)) (2 ^ 149) (m * 2 ^ k) (pow_pos 149) e (nearest_value few))
      (reduced (round binary32 false n 1) false (m * 2 ^ (k + 149)) (2 ^ 149) (m * 2 ^ k) (pow_pos 149) e v)
    where
      room : k ≤ 8 → 25 + (k + 149) ≤ 277
      room h = omega arith

-- n's leading digit stands at 2 ^ (23 + k), where k is what is lost
module _ (n : ℕ) (large : 2 ^ 24 ≤ n) where
  leads : 2 ^ (23 + lost_of n) ≤ n
  leads = size_reaches n (23 + lost_of n) (top (size n) (size_gt n 24 large))
    where
      top : (z : ℕ) → 24 < z → 23 + (z - 24) < z
      top z h = omega arith

  ends : n < 2 ^ (24 + lost_of n)
  ends = lt_of_lt_of_le (size-lt n) (pow_mono (reach (size n)))
    where
      reach : (z : ℕ) → z ≤ 24 + (z - 24)
      reach z = omega arith

  pub quotient_lt : n / 2 ^ lost_of n < 2 ^ 24
  quotient_lt = shr_lt 24 (lost_of n) ends

  pub nearest_is : n < 2 ^ 32 → of_bits binary32 (bits (lost_of n) (closest n (2 ^ lost_of n))) ≡ of_int binary32 (pos n)
  unfolding of_int
  nearest_is fit = nearest_same n (lost_of n) leads ends (lost_few n fit)

pub int_no_nan : (n : ℕ) → T (not (is_nan (of_int binary32 (pos n))))
unfolding of_int
int_no_nan n = round_no_nan false n 1

-- ---- of a negative number the sign alone differs
neg_odd : (d q k l : ℕ) → neg (odd d false q k l) ≡ odd d true q k l
unfolding odd neg
neg_odd d zero k l = refl
neg_odd d (suc q) k l = refl

neg_units : (q k : ℕ) → neg (units binary32 false q k) ≡ units binary32 true q k
unfolding units neg
neg_units q k = go (ltb (q * 2 ^ k) (2 ^ 277))
  where
    go : (b : Bool) → neg (cond b (odd 25 false q k 149) (inf false)) ≡ cond b (odd 25 true q k 149) (inf true)
    go true = neg_odd 25 q k 149
    go false = refl

pub neg_round : (a c : ℕ) → neg (round binary32 false a c) ≡ round binary32 true a c
neg_round a c = rw (round_is binary32 false a c, round_is binary32 true a c) (neg_units _ _)

pub none : (n : ℕ) → lt_z (pos n) (pos 0) ≡ true → ⊥
none n t = omega (arith, ltb-true n 0 t)

pub minus_int : (z : ℤ) → lt_z z (pos 0) ≡ true → neg (of_int binary32 (pos (nat_abs z))) ≡ of_int binary32 z
unfolding of_int
minus_int (pos n) t = absurd (none n t)
minus_int (negsuc j) t = neg_round (suc j) 1

pub plus_int : (z : ℤ) → lt_z z (pos 0) ≡ false → of_int binary32 (pos (nat_abs z)) ≡ of_int binary32 z
plus_int (pos n) t = refl
plus_int (negsuc j) t = absurd (true≢false t)
