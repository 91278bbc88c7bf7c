-- `round` near 0: 2 ^ 23 added to an `f32`'s size and taken off again leaves the whole number nearest to it, of two the even one; one more where it went down from a half. Assumes nothing.
-- Of `fin s m e` the size is A / D, with A = m * up e and D = down e, and its whole part is q = A / D.
use mathlib.Core.Path.{◌≡◌, refl, sym, ap, ◌∙◌, subst}
use mathlib.Core.Bool.{Bool, true, false, not, ◌&&◌, cond, true≢false, false≢true}
use mathlib.Core.Logic.{◌⊎◌, inl, inr}
use Prim.Native.Nat.{ℕ, zero, suc, ◌+◌, ◌-◌, ◌*◌, ◌/◌, ◌%◌, ◌^◌, ◌≤◌, ◌<◌, compare, Ordering}
use native.Mathlib.Nat.{le_of_eq, le_of_lt, mul-one, mul-mod_left, add-mul, one-mul, add-mul-div_right, add-mul-mod_self_right}
use native.Mathlib.Omega.{arith}
use lib.Dec.{T, is_le, compare_is_eq, ltb, eqb→eq, nleb→lt, lit≤}
use lib.Pow.{pow_mono}
use lib.IntN.{ℤ, pos, negsuc}
use lib.Ieee.{Float, nan, inf, fin, binary32, up, down, size, nearest, odd, units, round, add, sub, sum, neg, lt, le, fits, is_nan}
use lib.Ieee.Fits.{down_pos, round_is}
use lib.Ieee.Exact.{HasValue, odd_sign}
use lib.Ieee.Nearest.{closest}
use borrow.Author.Tests.{lt-ltb, ltb-true, ltb-false}
use Rattle.float32.specs.Meaning.{whole, unit, near_div, trunc_of, round_of, abs_of, sign_of, signed}
use Rattle.float32.proofs.Tests.{below_or_not, first, second}
use Rattle.float32.proofs.Fields.{signed_own}
use Rattle.float32.proofs.Whole.{whole_value}
use Rattle.float32.proofs.Floors.{cross, few_digits, lt_plus, gt_minus}
use Rattle.float32.proofs.Laws.{abs_fits}
use Rattle.float32.proofs.Nearest.{half, half_above, minus_half_below, near_same, near_more, rest_value, round_up, round_stay}
use Rattle.float32.proofs.Magic.{shift, shifted_plus, div_is, own, round_turned}
use Rattle.float32.proofs.Same.{round_own}

-- the nearest is the next one up only from a half
went_up : (w a b : ℕ) → nearest w (compare a b) ≡ w + 1 → b ≤ a
went_up w a b h = go (compare a b) (eqb→eq a b) (nleb→lt a b) h
  where
    over : (w : ℕ) → w ≡ w + 1 → ⊥
    over w h = omega arith

    go : (o : Ordering) → (T (compare_is_eq o) → a ≡ b) → (T (not (is_le o)) → b < a) → nearest w o ≡ w + 1 → b ≤ a
    go Ordering.lt e g h = absurd (over w h)
    go Ordering.eq e g h = le_of_eq (sym (e tt))
    go Ordering.gt e g h = le_of_lt (g tt)

-- what is left below a whole number is no half
units_no_half : (q k : ℕ) → le (half false) (units binary32 true q k) ≡ false
unfolding units
units_no_half q k = go (ltb (q * 2 ^ k) (2 ^ 277))
  where
    low : (s : Bool) → s ≡ true → le (half false) (inf s) ≡ false
    low s h = rw h (unfold le in refl)

    go : (b : Bool) → le (half false) (cond b (odd 25 true q k 149) (inf true)) ≡ false
    go true = half_above (odd 25 true q k 149) (q * 2 ^ k) (2 ^ 149) (odd_sign 25 true q k 149)
    go false = low true refl

below_no_half : (a c : ℕ) → le (half false) (round binary32 true a c) ≡ false
below_no_half a c = ap (le (half false)) (round_is binary32 true a c) ∙ units_no_half _ (size (a * 2 ^ 149 / c) - 24)

under_no_half : (m : ℕ) (e : ℤ) (y : Float) (n : ℕ) → HasValue y false n 1 → m * up e < n * down e → le (half false) (sub binary32 (fin false m e) y) ≡ false
unfolding sub sum
under_no_half m e nan n h l = absurd h
under_no_half m e (inf t) n h l = absurd h
under_no_half m e (fin true k d) n h l = absurd (true≢false h.0)
under_no_half m e (fin false k d) n h l =
    rw (cross (m * up e) (down e) (down d) n (k * up d) (down_pos d) h.1 ∙ lt-ltb (m * up e) (n * down e) l)
    (below_no_half (k * up d * down e - m * up e * down d) (down e * down d))

-- ---- 2 ^ 23
abbrev pub big : Float
big = shift 1 23

abbrev pub even : Float → Float
even y = sub binary32 (add binary32 y big) big

pub record Rounded (y r : Float) : Type 0 where
  pub more : le (half false) (sub binary32 y r) ≡ true → add binary32 r (unit false) ≡ round_of y
  pub stay : le (half false) (sub binary32 y r) ≡ false → r ≡ round_of y

trunc_is : (m : ℕ) (e : ℤ) → trunc_of (fin false m e) ≡ whole false (m * up e / down e)
unfolding trunc_of
trunc_is m e = refl

-- what is left is the whole part or the next number
at_part : (m : ℕ) (e : ℤ) (r : Float) → T (fits binary32 (fin false m e)) → r ≡ trunc_of (fin false m e) → Rounded (fin false m e) r
unfolding trunc_of
at_part m e r h i =
    rw i
    (record {
      more = round_up (fin false m e) h;
      stay = λ f. round_stay (fin false m e) h f
          (minus_half_below (sub binary32 (fin false m e) (whole false (m * up e / down e))) (m * up e % down e) (down e) (rest_value false m e h));
    })

at_next : (m : ℕ) (e : ℤ) (r : Float) (n : ℕ) → T (fits binary32 (fin false m e)) → HasValue r false n 1 → r ≡ whole false (m * up e / down e + 1) → m * up e < n * down e
    → down e ≤ m * up e % down e * 2 → Rounded (fin false m e) r
unfolding round_of
at_next m e r n h v i g t =
    let f : le (half false) (sub binary32 (fin false m e) r) ≡ false = under_no_half m e r n v g in
    let j : r ≡ whole false (near_div (m * up e) (down e)) = i ∙ sym (ap (whole false) (near_more (m * up e) (down e) (down_pos e) t)) in
    record { more = λ w. absurd (true≢false (sym w ∙ f)); stay = λ w. j }

pub round_near : (m : ℕ) (e : ℤ) → T (fits binary32 (fin false m e)) → m * up e < 2 ^ 23 * down e → Rounded (fin false m e) (even (fin false m e))
round_near m e h l = let b = shifted_plus 1 23 m e (lit≤ tt) (omega arith) in go b.0 b.1 b.2 b.3 b.4 b.5 (below_or_not (m * up e) (b.0 * down e))
  where
    next : (A D n : ℕ) → A < n * D → n * D < A + D → n ≡ A / D + 1
    next A D zero g c = absurd (none A D g)
      where
        none : (A D : ℕ) → A < 0 * D → ⊥
        none A D h = omega arith
    next A D (suc n) g c =
        let i : suc n * D ≡ n * D + D = omega (arith, add-mul n 1 D, one-mul D) in
        let j : A / D ≡ n = div_is A D n (omega arith) (omega arith) in
        omega (arith, j)

    tie : (A D n : ℕ) → 0 < D → n ≡ A / D + 1 → closest (A + 8388608 * D) D ≡ 8388608 + n → D ≤ A % D * 2
    tie A D n p i t =
        let a : (A + 8388608 * D) / D ≡ A / D + 8388608 = add-mul-div_right A 8388608 p in
        let b : (A + 8388608 * D) % D ≡ A % D = add-mul-mod_self_right A 8388608 D in
        let c : 8388608 + n ≡ A / D + 8388608 + 1 = omega (arith, i) in
        went_up (A / D + 8388608) (A % D * 2) D (sym (ap (λ (z : ℕ). nearest z (compare ((A + 8388608 * D) % D * 2) D)) a ∙ ap (λ (z : ℕ). nearest (A / D + 8388608) (compare (z * 2) D)) b) ∙ t ∙ c)

    go : (n : ℕ) → even (fin false m e) ≡ whole false n → n ≤ 2 ^ 24 → m * up e < n * down e + down e → n * down e < m * up e + down e → closest (m * up e + 8388608 * down e) (down e) ≡ 8388608 + n
        → (m * up e < n * down e) ⊎ (n * down e ≤ m * up e) → Rounded (fin false m e) (even (fin false m e))
    go n i s a c t (inr g) = at_part m e (even (fin false m e)) h (i ∙ part n (sym (div_is (m * up e) (down e) n g a)))
      where
        part : (n : ℕ) → n ≡ m * up e / down e → whole false n ≡ trunc_of (fin false m e)
        part n w = ap (whole false) w ∙ sym (trunc_is m e)
    go n i s a c t (inl g) =
        let j = next (m * up e) (down e) n g c in
        at_next m e (even (fin false m e)) n h (subst (λ (x : Float). HasValue x false n 1) (sym i) (whole_value false n s)) (i ∙ ap (whole false) j) g (tie (m * up e) (down e) n (down_pos e) j t)

-- ---- a whole number from 0 up has the sign plus
odd_plus : (q k : ℕ) → sign_of (odd 25 false q k 149) ≡ false
unfolding odd sign_of
odd_plus zero k = refl
odd_plus (suc q) k = refl

units_plus : (q k : ℕ) → sign_of (units binary32 false q k) ≡ false
unfolding units sign_of
units_plus q k = go (ltb (q * 2 ^ k) (2 ^ 277))
  where
    go : (b : Bool) → sign_of (cond b (odd 25 false q k 149) (inf false)) ≡ false
    go true = odd_plus q k
    go false = refl

whole_sign : (n : ℕ) → sign_of (whole false n) ≡ false
whole_sign n = ap sign_of (round_is binary32 false n 1) ∙ units_plus _ (size (n * 2 ^ 149 / 1) - 24)

turned_plus : (y : Float) → sign_of y ≡ false → signed true y ≡ neg y
unfolding sign_of signed neg
turned_plus nan h = refl
turned_plus (inf true) h = absurd (true≢false h)
turned_plus (inf false) h = refl
turned_plus (fin true m e) h = absurd (true≢false h)
turned_plus (fin false m e) h = refl

-- ---- the size and the sign of what `round` gives
pub round_plus : (x : Float) → sign_of (round_of (abs_of x)) ≡ false
unfolding round_of abs_of sign_of
round_plus nan = refl
round_plus (inf s) = refl
round_plus (fin s m e) = whole_sign (near_div (m * up e) (down e))

pub round_signed : (x : Float) → signed (sign_of x) (round_of (abs_of x)) ≡ round_of x
unfolding round_of abs_of sign_of signed
round_signed nan = refl
round_signed (inf s) = refl
round_signed (fin false m e) = signed_own (whole false (near_div (m * up e) (down e))) false (whole_sign (near_div (m * up e) (down e)))
round_signed (fin true m e) = turned_plus (whole false (near_div (m * up e) (down e))) (whole_sign (near_div (m * up e) (down e))) ∙ round_turned false (near_div (m * up e) (down e)) 1

-- ---- x below 2 ^ 23 in size, or not
abbrev pub within : Float → Bool
within x = lt x big && lt (neg big) x

pub within_real : (x : Float) → within x ≡ true → T (not (is_nan x))
unfolding lt is_nan
within_real nan h = absurd (false≢true h)
within_real (inf s) h = tt
within_real (fin s m e) h = tt

pub round_within : (x : Float) → T (fits binary32 x) → within x ≡ true → Rounded (abs_of x) (even (abs_of x))
unfolding abs_of lt neg
round_within nan h l = absurd (false≢true l)
round_within (inf true) h l = absurd (false≢true (second (lt (inf true) big) (lt (neg big) (inf true)) l))
round_within (inf false) h l = absurd (false≢true (first (lt (inf false) big) (lt (neg big) (inf false)) l))
round_within (fin false m e) h l =
    round_near m e h (ltb-true (m * up e) (8388608 * down e) (sym (lt_plus m e big 8388608 (refl, refl)) ∙ first (lt (fin false m e) big) (lt (neg big) (fin false m e)) l))
round_within (fin true m e) h l =
    round_near m e (abs_fits (fin true m e) h) (ltb-true (m * up e) (8388608 * down e)
    (sym (gt_minus m e (neg big) 8388608 (refl, refl)) ∙ second (lt (fin true m e) big) (lt (neg big) (fin true m e)) l))

-- from 2 ^ 23 up there is no fraction
whole_from : (s : Bool) (m : ℕ) (e : ℤ) → T (fits binary32 (fin s m e)) → 8388608 * down e ≤ m * up e → (n : ℕ) × (m * up e ≡ n * down e)
whole_from s m (pos k) h l = (m * 2 ^ k, sym (mul-one (m * 2 ^ k)))
whole_from s m (negsuc k) h l = absurd (over (2 ^ suc k) m (pow_mono (some k)) l (few_digits s m (negsuc k) h))
  where
    some : (k : ℕ) → 1 ≤ suc k
    some k = omega arith

    over : (z m : ℕ) → 2 ≤ z → 8388608 * z ≤ m * 1 → m < 2 ^ 24 → ⊥
    over z m p a b = omega arith

far_own : (s : Bool) (m : ℕ) (e : ℤ) → T (fits binary32 (fin s m e)) → 8388608 * down e ≤ m * up e → fin s m e ≡ round_of (fin s m e)
unfolding round_of
far_own s m e h l =
    let w = whole_from s m e h l in
    let z : m * up e % down e ≡ 0 = ap (λ (y : ℕ). y % down e) w.1 ∙ mul-mod_left w.0 (down e) in
    own s m e w.0 h w.1 ∙ sym (ap (whole s) (near_same (m * up e) (down e) (down_pos e) (subst (λ (y : ℕ). y * 2 < down e) (sym z) (down_pos e))))

pub round_far : (x : Float) → T (fits binary32 x) → within x ≡ false → x ≡ round_of x
unfolding lt neg
round_far nan h l = unfold round_of in refl
round_far (inf s) h l = unfold round_of in refl
round_far (fin false m e) h l =
    far_own false m e h (ltb-false (m * up e) (8388608 * down e)
    (sym (lt_plus m e big 8388608 (refl, refl)) ∙ left (lt (fin false m e) big) (ltb 0 (1 * 2 ^ 23 * down e + m * up e * 1))
    (lt-ltb 0 (1 * 2 ^ 23 * down e + m * up e * 1) (some (down e) (m * up e) (down_pos e))) l))
  where
    some : (D A : ℕ) → 0 < D → 0 < 1 * 2 ^ 23 * D + A * 1
    some D A p = omega arith

    left : (a b : Bool) → b ≡ true → (a && b) ≡ false → a ≡ false
    left true b p q = absurd (true≢false (sym p ∙ q))
    left false b p q = refl
round_far (fin true m e) h l =
    far_own true m e h (ltb-false (m * up e) (8388608 * down e)
    (sym (gt_minus m e (neg big) 8388608 (refl, refl)) ∙ right (ltb 0 (m * up e * 1 + 1 * 2 ^ 23 * down e)) (lt (neg big) (fin true m e))
    (lt-ltb 0 (m * up e * 1 + 1 * 2 ^ 23 * down e) (some (down e) (m * up e) (down_pos e))) l))
  where
    some : (D A : ℕ) → 0 < D → 0 < A * 1 + 1 * 2 ^ 23 * D
    some D A p = omega arith

    right : (a b : Bool) → a ≡ true → (a && b) ≡ false → b ≡ false
    right true b p q = q
    right false b p q = absurd (false≢true p)

none_more : (a d : ℕ) → a + 0 * d ≡ a
none_more a d = omega arith

-- +0 added to a float from +0 up leaves it
pub none_added : (x : Float) → T (fits binary32 x) → T (not (is_nan x)) → sign_of x ≡ false → add binary32 x (fin false 0 (pos 0)) ≡ x
unfolding add sum sign_of is_nan
none_added nan h n s = absurd n
none_added (inf true) h n s = absurd (true≢false s)
none_added (inf false) h n s = refl
none_added (fin true m e) h n s = absurd (true≢false s)
none_added (fin false m e) h n s = rw (mul-one (m * up e), mul-one (down e), none_more (m * up e) (down e)) (round_own false m e h)
