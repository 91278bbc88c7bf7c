-- A float from +0 to 255 to which 0.498046845 is added, and then 2 ^ 15: what its bits are more than those of 2 ^ 15, divided by 256, is the nearest whole number, halves going up. Assumes nothing.
-- Both sums rise with the float, so that it is enough to look at two floats for each whole number n: the least that goes to n, which is n less a half, and the
-- greatest, whose pattern is the one before that of n and a half. These are worked out, all 512 of them (`lows`, `highs`).
-- Of `fin s m e` the size is A / D, with A = m * up e and D = down e.
use mathlib.Core.Path.{◌≡◌, refl, sym, ap, ◌∙◌, subst}
use mathlib.Core.Bool.{Bool, true, false, ◌&&◌, true≢false}
use mathlib.Core.Logic.{◌⊎◌, inl, inr}
use Prim.Native.Nat.{ℕ, zero, suc, ◌+◌, ◌-◌, ◌*◌, ◌%◌, ◌^◌, ◌≤◌, ◌<◌}
use native.Mathlib.Nat.{le_trans, lt_of_lt_of_le, lt_of_le_of_lt, mul_assoc, lt_of_mul-lt-mul_right, le_of_mul-le-mul_right, div-add-mod', mod-lt}
use native.Mathlib.Omega.{arith}
use lib.Dec.{T, leb, ltb, eqb, leb→le, ltb→lt, eqb→eq, lit<, lit≤}
use lib.Pow.{shl_lt}
use lib.IntN.{ℤ, pos, negsuc}
use lib.Ieee.{Float, nan, inf, fin, binary32, up, down, add, sum, round, lt, fits, of_bits, to_bits}
use lib.Ieee.Bits.{of_bits-fits}
use lib.Ieee.Exact.{HasValue, round_exact}
use lib.Ieee.Fits.{down_pos, round-fits, and_l, and_r}
use borrow.Author.Tests.{lt-ltb, le-ltb}
use Rattle.float32.specs.Meaning.{near_div}
use Rattle.float32.proofs.Floors.{lt_plus}
use Rattle.float32.proofs.Tests.{yes, below_or_not}
use Rattle.whole.proofs.Shifted.{same_test}
use Rattle.rounded.proofs.Shapes.{shape}
use Rattle.rounded.proofs.Rises.{add_rises}
use Rattle.rounded.proofs.Nearest.{many, nearest_small}
use Rattle.rounded.proofs.BitOrder.{plain, bits_rise, bits_climb}

-- ---- the two sums
-- 1/2 less 1/512 and 1/2 ^ 25
abbrev pub nearly_half : Float
nearly_half = fin false 16711679 (negsuc 24)

-- 2 ^ 15: from here to twice as much a float's last digit is worth 1/256
abbrev pub parted : Float
parted = fin false 1 (pos 15)

-- the bits of 2 ^ 15
abbrev pub parted_bits : ℕ
parted_bits = 0x4700_0000

abbrev pub lift : Float → Float
lift x = add binary32 (add binary32 x nearly_half) parted

abbrev pub bits : Float → ℕ
bits x = to_bits binary32 (lift x)

lift_rises : (x y : Float) → lt y x ≡ false → lt (lift y) (lift x) ≡ false
lift_rises x y h = add_rises (add binary32 x nearly_half) (add binary32 y nearly_half) parted (add_rises x y nearly_half h)

-- from +0 up they are finite, with the sign plus, or the upper infinity
module _ (P : Float → Type 0) (i : P (inf false)) (g : (m : ℕ) (e : ℤ) → P (fin false m e)) where
  add_shape : (m : ℕ) (e : ℤ) (n : ℕ) (d : ℤ) → P (add binary32 (fin false m e) (fin false n d))
  unfolding add sum
  add_shape m e n d = shape P i g binary32 (m * up e * down d + n * up d * down e) (down e * down d)

lift_shape : (P : Float → Type 0) → P (inf false) → ((m : ℕ) (e : ℤ) → P (fin false m e)) → (m : ℕ) (e : ℤ) → P (lift (fin false m e))
lift_shape P i g m e = add_shape (λ (y : Float). P (add binary32 y parted)) (unfold add in i) (λ k d. add_shape P i g k d 1 (pos 15)) m e 16711679 (negsuc 24)

-- and finite where they are not above a finite sum
no_inf : (z : Float) → T (plain z) → lt z (inf false) ≡ false → ⊥
unfolding lt
no_inf nan p h = p
no_inf (inf s) p h = p
no_inf (fin true k d) p h = p
no_inf (fin false k d) p h = true≢false h

under_plain : (m : ℕ) (e : ℤ) (z : Float) → T (plain z) → lt z (lift (fin false m e)) ≡ false → T (plain (lift (fin false m e)))
under_plain m e z p = lift_shape (λ (y : Float). lt z y ≡ false → T (plain y)) (λ h. absurd (no_inf z p h)) (λ k d h. tt) m e

-- ---- the two floats of each whole number
-- n and a half
abbrev half : ℕ → Float
half n = round binary32 false (n * 2 + 1) 2

-- the least float that goes to n
least : ℕ → Float
least zero = fin false 0 (pos 0)
least (suc n) = half n

-- the greatest float below n and a half
abbrev greatest : ℕ → Float
greatest n = of_bits binary32 (to_bits binary32 (half n) - 1)

abbrev low_ok : ℕ → Bool
low_ok n = plain (lift (least n)) && leb (parted_bits + many * n) (bits (least n))

abbrev high_ok : ℕ → Bool
high_ok n =
    plain (half n) && (plain (greatest n) && (eqb (to_bits binary32 (half n)) (to_bits binary32 (greatest n) + 1)
    && (plain (lift (greatest n)) && ltb (bits (greatest n)) (parted_bits + many * (n + 1)))))

-- whether p passes for each number below k
all : ℕ → (ℕ → Bool) → Bool
all zero p = true
all (suc k) p = p k && all k p

lows : all many low_ok ≡ true
unfolding add round to_bits all least
lows = refl

highs : all many high_ok ≡ true
unfolding add round to_bits of_bits all
highs = refl

each : (k : ℕ) (p : ℕ → Bool) (n : ℕ) → T (all k p) → n < k → T (p n)
unfolding all
each zero p n h l = absurd (omega arith)
each (suc k) p n h l = go (each k p n (and_r (p k) (all k p) h)) (below_or_not n k)
  where
    last : k ≤ n → k ≡ n
    last g = omega arith

    go : (n < k → T (p n)) → (n < k) ⊎ (k ≤ n) → T (p n)
    go f (inl g) = f g
    go f (inr g) = subst (λ (j : ℕ). T (p j)) (last g) (and_l (p k) (all k p) h)

-- the same, said of the floats
record Low (n : ℕ) : Type 0 where
  sum_plain : T (plain (lift (least n)))
  reaches : parted_bits + many * n ≤ bits (least n)

record High (n : ℕ) : Type 0 where
  half_plain : T (plain (half n))
  its_plain : T (plain (greatest n))
  next : to_bits binary32 (half n) ≡ to_bits binary32 (greatest n) + 1
  sum_plain : T (plain (lift (greatest n)))
  stays : bits (greatest n) < parted_bits + many * (n + 1)

low_of : (n : ℕ) → n < many → Low n
low_of n l =
    let t = each many low_ok n (yes lows) l in
    record {
      sum_plain = and_l (plain (lift (least n))) (leb (parted_bits + many * n) (bits (least n))) t;
      reaches = leb→le (parted_bits + many * n) (bits (least n)) (and_r (plain (lift (least n))) (leb (parted_bits + many * n) (bits (least n))) t);
    }

high_of : (n : ℕ) → n < many → High n
high_of n l =
    let a = plain (half n) in
    let b = plain (greatest n) in
    let c = eqb (to_bits binary32 (half n)) (to_bits binary32 (greatest n) + 1) in
    let d = plain (lift (greatest n)) in
    let f = ltb (bits (greatest n)) (parted_bits + many * (n + 1)) in
    let t = each many high_ok n (yes highs) l in
    let u = and_r a (b && (c && (d && f))) t in
    let v = and_r b (c && (d && f)) u in
    let w = and_r c (d && f) v in
    record {
      half_plain = and_l a (b && (c && (d && f))) t;
      its_plain = and_l b (c && (d && f)) u;
      next = eqb→eq (to_bits binary32 (half n)) (to_bits binary32 (greatest n) + 1) (and_l c (d && f) v);
      sum_plain = and_l d f w;
      stays = ltb→lt (bits (greatest n)) (parted_bits + many * (n + 1)) (and_r d f w);
    }

-- ---- x against n and a half
half_value : (n : ℕ) → n < many → HasValue (half n) false (n * 2 + 1) 2
half_value n l =
    let q : n * 2 + 1 < 2 ^ 24 = omega arith in
    round_exact binary32 false (n * 2 + 1) 2 (n * 2 + 1) 148 (lit< tt) q (lt_of_lt_of_le (shl_lt 24 148 q) (lit≤ tt)) (sym (mul_assoc (n * 2 + 1) (2 ^ 148) 2))

below_half : (m : ℕ) (e : ℤ) (y : Float) (n : ℕ) → HasValue y false (n * 2 + 1) 2 → lt (fin false m e) y ≡ ltb (m * up e * 2) ((n * 2 + 1) * down e)
unfolding lt
below_half m e nan n h = absurd h
below_half m e (inf s) n h = absurd h
below_half m e (fin true k d) n h = absurd (true≢false h.0)
below_half m e (fin false k d) n h = go (m * up e) (down e) (k * up d) (down d) (n * 2 + 1) (down_pos d) h.1
  where
    go : (A D P d N : ℕ) → 0 < d → P * 2 ≡ N * d → ltb (A * d) (P * D) ≡ ltb (A * 2) (N * D)
    go A D P d N p e =
        let i : P * 2 * D ≡ N * d * D = ap (λ (z : ℕ). z * D) e in
        same_test (A * d) (P * D) (A * 2) (N * D) (λ h. lt_of_mul-lt-mul_right d (omega arith)) (λ h. le_of_mul-le-mul_right {k = d} (omega arith) p)

-- what the nearest number says of A / D
near_low : (A D : ℕ) → 0 < D → near_div A D * D * 2 ≤ A * 2 + D
near_low A D p = go (near_div A D) ((A * 2 + D) % (D * 2)) (div-add-mod' (A * 2 + D) (D * 2))
  where
    go : (n r : ℕ) → n * (D * 2) + r ≡ A * 2 + D → n * D * 2 ≤ A * 2 + D
    go n r e = omega (arith, mul_assoc n D 2)

near_high : (A D : ℕ) → 0 < D → A * 2 < near_div A D * D * 2 + D
near_high A D p = go (near_div A D) ((A * 2 + D) % (D * 2)) (div-add-mod' (A * 2 + D) (D * 2)) (mod-lt (A * 2 + D) (omega arith))
  where
    go : (n r : ℕ) → n * (D * 2) + r ≡ A * 2 + D → r < D * 2 → A * 2 < n * D * 2 + D
    go n r e l = omega (arith, mul_assoc n D 2)

module _ (m : ℕ) (e : ℤ) (f : T (fits binary32 (fin false m e))) (most : m * up e ≤ 255 * down e) where
  abbrev x : Float
  x = fin false m e

  abbrev n : ℕ
  n = near_div (m * up e) (down e)

  few : n < many
  few = nearest_small (m * up e) (down e) (down_pos e) most

  not_less : lt x (least n) ≡ false
  unfolding least
  not_less = go n few (near_low (m * up e) (down e) (down_pos e))
    where
      none : (A D : ℕ) → ltb A (0 * D) ≡ false
      none A D = le-ltb A (0 * D) (omega arith)

      some : (k A D : ℕ) → suc k * D * 2 ≤ A * 2 + D → (k * 2 + 1) * D ≤ A * 2
      some k A D h = omega arith

      go : (j : ℕ) → j < many → j * down e * 2 ≤ m * up e * 2 + down e → lt x (least j) ≡ false
      go zero l h = lt_plus m e (fin false 0 (pos 0)) 0 (refl, refl) ∙ none (m * up e) (down e)
      go (suc k) l h = below_half m e (half k) k (half_value k (omega arith)) ∙ le-ltb (m * up e * 2) ((k * 2 + 1) * down e) (some k (m * up e) (down e) h)

  under_half : lt x (half n) ≡ true
  under_half = below_half m e (half n) n (half_value n few) ∙ lt-ltb (m * up e * 2) ((n * 2 + 1) * down e) (some n (m * up e) (down e) (near_high (m * up e) (down e) (down_pos e)))
    where
      some : (k A D : ℕ) → A * 2 < k * D * 2 + D → A * 2 < (k * 2 + 1) * D
      some k A D h = omega arith

  not_more : lt (greatest n) x ≡ false
  not_more = go (lt (greatest n) x) refl
    where
      clash : (a b c : ℕ) → a < b → b < c → c ≡ a + 1 → ⊥
      clash a b c h k i = omega arith

      go : (b : Bool) → lt (greatest n) x ≡ b → lt (greatest n) x ≡ false
      go false i = i
      go true i =
          let h = high_of n few in
          absurd
          (clash (to_bits binary32 (greatest n)) (to_bits binary32 x) (to_bits binary32 (half n))
          (bits_climb (greatest n) x h.its_plain tt (of_bits-fits binary32 (to_bits binary32 (half n) - 1)) f i)
          (bits_climb x (half n) tt h.half_plain f (round-fits binary32 false (n * 2 + 1) 2) under_half) h.next)

  pub lift_plain : T (plain (lift x))
  lift_plain = under_plain m e (lift (greatest n)) (high_of n few).sum_plain (lift_rises x (greatest n) not_more)

  pub bits_low : parted_bits + many * n ≤ bits x
  bits_low =
      let h = low_of n few in
      le_trans h.reaches (bits_rise (lift (least n)) (lift x) h.sum_plain lift_plain (lift_rises (least n) x not_less))

  pub bits_high : bits x < parted_bits + many * (n + 1)
  bits_high =
      let h = high_of n few in
      lt_of_le_of_lt (bits_rise (lift x) (lift (greatest n)) lift_plain h.sum_plain (lift_rises x (greatest n) not_more)) h.stays
