-- A large whole number added to an `f32` and taken off again leaves a whole number beside it: from 2 ^ 23 up to 2 ^ 24 the `f32`s are the whole numbers. Assumes nothing.
-- Of `fin s m e` the size is A / D, with A = m * up e and D = down e.
use mathlib.Core.Path.{◌≡◌, refl, sym, ap, ◌∙◌, subst}
use mathlib.Core.Bool.{Bool, true, false, not, ◌&&◌, cond, true≢false, false≢true}
use mathlib.Core.Logic.{◌⊎◌, inl, inr}
use Prim.Native.Nat.{ℕ, zero, suc, ◌+◌, ◌-◌, ◌*◌, ◌/◌, ◌%◌, ◌^◌, ◌≤◌, ◌<◌, zero-le, min, compare}
use native.Mathlib.Nat.{sub-zero, div-mul-le_self, div-add-mod', mod-lt, mul-div_cancel, eq_of_mul-eq-mul_right, le_trans, le_of_eq, le_antisymm, lt_of_lt_of_le, lt_of_le_of_lt, lt_irrefl, mul-one, one-mul, mul_assoc, mul_comm, mul_right_comm, mul-pos, mul-sub, add-mul, div-one, div-eq_of_lt-le, le-div_iff_mul-le, div-lt_iff_lt-mul, mul-le-mul_right, mul-lt-mul_of_pos_right, lt_of_mul-lt-mul_right}
use native.Mathlib.Omega.{arith}
use lib.Dec.{T, ltb, le→leb, lt→ltb, lit<, lit≤}
use lib.Pow.{pow_pos, pow_mono}
use lib.IntN.{ℤ, pos, neg_ℤ}
use lib.Ieee.{Float, nan, inf, fin, binary32, up, down, size, nearest, odd, units, round, add, sub, neg, sum, level, lt, eq, fits, in_float, in_signed, in_unsigned, of_int, to_signed, to_unsigned}
use lib.Ieee.Digits.{size-lt, size-le}
use lib.Ieee.Fits.{down_pos, core, round_is, nearest-le}
use lib.Ieee.Exact.{HasValue, units_val}
use lib.Ieee.Nearest.{closest, closest_mono, closest_same}
use lib.Ieee.Back.{whole_unique, unsigned_back, positive_back, negative_back}
use lib.Ieee.Scale.{round_same, finite}
use borrow.Author.Tests.{lt-ltb, le-ltb, ltb-true, ltb-false, eq-eqb, eqb-true}
use Rattle.float32.specs.Inner.{limit}
use Rattle.float32.specs.Meaning.{whole, unit, up_div, floor_of, ceil_of}
use Rattle.float32.proofs.Tests.{below_or_not, first}
use Rattle.float32.proofs.Whole.{whole_fits, whole_value, reduced}
use Rattle.float32.proofs.Order.{eq_not_lt, eq_not_gt}
use Rattle.float32.proofs.Laws.{up_exact}
use Rattle.float32.proofs.Floors.{lt_plus, gt_plus, lt_minus, gt_minus, one_less, up_same, trunc_exact}

-- ---- from 2 ^ 23 up to 2 ^ 24 a fraction rounds to the whole number closest to it
size_is : (w j : ℕ) → 2 ^ j ≤ w → w < 2 ^ suc j → size w ≡ suc j
size_is w j h l = go (below_or_not (size w) (suc j))
  where
    under : (a b : ℕ) → a < suc b → a ≤ b
    under a b g = omega arith

    go : (size w < suc j) ⊎ (suc j ≤ size w) → size w ≡ suc j
    go (inl g) = absurd (lt_irrefl w (lt_of_lt_of_le (size-lt w) (le_trans (pow_mono (under (size w) j g)) h)))
    go (inr g) = le_antisymm (size-le w (suc j) l) g

scaled_le : (a c k : ℕ) → k * c ≤ a → k * 2 ^ 149 * c ≤ a * 2 ^ 149
scaled_le a c k h = subst (λ (z : ℕ). z ≤ a * 2 ^ 149) (mul_right_comm k c (2 ^ 149)) (mul-le-mul_right (2 ^ 149) h)

scaled_lt : (a c k : ℕ) → a < k * c → a * 2 ^ 149 < k * 2 ^ 149 * c
scaled_lt a c k h = subst (λ (z : ℕ). a * 2 ^ 149 < z) (mul_right_comm k c (2 ^ 149)) (mul-lt-mul_of_pos_right h (pow_pos 149))

dropped : (a c : ℕ) → 0 < c → 2 ^ 23 * c ≤ a → a < 2 ^ 24 * c → size (a * 2 ^ 149 / c) - 24 ≡ 149
dropped a c C h l =
    ap (λ (z : ℕ). z - 24)
    (size_is (a * 2 ^ 149 / c) 172 ((le-div_iff_mul-le C).1 (scaled_le a c (2 ^ 23) h)) ((div-lt_iff_lt-mul C).1 (scaled_lt a c (2 ^ 24) l)))

pub grid_value : (a c : ℕ) → 0 < c → 2 ^ 23 * c ≤ a → a < 2 ^ 24 * c → HasValue (round binary32 false a c) false (closest a c) 1
grid_value a c C h l =
    let q = closest a c in
    let n = a * 2 ^ 149 in
    let i : round binary32 false a c ≡ units binary32 false q 149 =
    round_is binary32 false a c
    ∙ ap (λ (k : ℕ). core binary32 false n c k) (dropped a c C h l)
    ∙ ap (λ (z : ℕ). units binary32 false z 149) (closest_same n (c * 2 ^ 149) a c (mul-pos C (pow_pos 149)) C (mul_right_comm a (2 ^ 149) c ∙ mul_assoc a c (2 ^ 149))) in
    subst (λ (x : Float). HasValue x false q 1) (sym i)
    (reduced (units binary32 false q 149) false (q * 2 ^ 149) (2 ^ 149) q (pow_pos 149) refl
    (units_val binary32 false q 149 (lt_of_le_of_lt (mul-le-mul_right (2 ^ 149) (le_trans (nearest-le (a / c) (compare (a % c * 2) c)) ((div-lt_iff_lt-mul C).1 l))) (lit< tt))))

-- ---- the closest whole number is less than 1 away
closest_whole : (k : ℕ) → closest k 1 ≡ k
closest_whole k = ap (λ (z : ℕ). nearest (k / 1) (compare (z * 2) 1)) (by_one k) ∙ div-one k
  where
    by_one : (k : ℕ) → k % 1 ≡ 0
    by_one k = omega arith

pub closest_above : (a D : ℕ) → 0 < D → a < closest a D * D + D
closest_above a D p = go (closest a D) refl (below_or_not a (closest a D * D + D))
  where
    go : (n : ℕ) → closest a D ≡ n → (a < closest a D * D + D) ⊎ (closest a D * D + D ≤ a) → a < closest a D * D + D
    go n e (inl l) = l
    go n e (inr l) =
        let h : (n + 1) * D ≤ a * 1 = omega (arith, add-mul n 1 D, one-mul D, mul-one a, subst (λ (z : ℕ). z * D + D ≤ a) e l) in
        let g : n + 1 ≤ n = subst (λ (z : ℕ). z ≤ n) (closest_whole (n + 1)) (subst (λ (z : ℕ). closest (n + 1) 1 ≤ z) e (closest_mono (n + 1) 1 a D (lit< tt) p h)) in
        absurd (over n g)
      where
        over : (n : ℕ) → n + 1 ≤ n → ⊥
        over n h = omega arith

pub closest_below : (a D : ℕ) → 0 < D → closest a D * D < a + D
closest_below a D p = go (closest a D) refl (below_or_not (closest a D * D) (a + D))
  where
    over : (n : ℕ) → suc n ≤ n → ⊥
    over n h = omega arith

    go : (n : ℕ) → closest a D ≡ n → (closest a D * D < a + D) ⊎ (a + D ≤ closest a D * D) → closest a D * D < a + D
    go n e (inl l) = l
    go zero e (inr l) = absurd (none a D p (subst (λ (z : ℕ). a + D ≤ z * D) e l))
      where
        none : (a D : ℕ) → 0 < D → a + D ≤ 0 * D → ⊥
        none a D p h = omega arith
    go (suc n) e (inr l) =
        let h : a * 1 ≤ n * D = omega (arith, add-mul n 1 D, one-mul D, mul-one a, subst (λ (z : ℕ). a + D ≤ z * D) e l) in
        let g : suc n ≤ n = subst (λ (z : ℕ). suc n ≤ z) (closest_whole n) (subst (λ (z : ℕ). z ≤ closest n 1) e (closest_mono a D n 1 p (lit< tt) h)) in
        absurd (over n g)

-- ---- W, which is k * 2 ^ j, added and taken off again
abbrev pub shift : ℕ → ℕ → Float
shift k j = fin false k (pos j)

less : (a b c : ℕ) → (a * c - b * c) * 1 ≡ (a - b) * c
less a b c = omega (arith, mul-sub c a b, mul_comm c a, mul_comm c b, mul_comm c (a - b))

sum_off : (N W c : ℕ) → 0 < c → sum binary32 false (N * c) true (W * c) c ≡ cond (ltb N W) (whole true (W - N)) (whole false (N - W))
unfolding sum
sum_off N W c C = go (below_or_not N W)
  where
    go : (N < W) ⊎ (W ≤ N)
        → cond (ltb (N * c) (W * c)) (round binary32 true (W * c - N * c) c) (round binary32 false (N * c - W * c) c) ≡ cond (ltb N W) (whole true (W - N)) (whole false (N - W))
    go (inl l) = rw (lt-ltb (N * c) (W * c) (mul-lt-mul_of_pos_right l C), lt-ltb N W l) (round_same binary32 true (W * c - N * c) c (W - N) 1 C (lit< tt) (less W N c))
    go (inr l) = rw (le-ltb (N * c) (W * c) (mul-le-mul_right c l), le-ltb N W l) (round_same binary32 false (N * c - W * c) c (N - W) 1 C (lit< tt) (less N W c))

zero_more : (r : Float) (n : ℕ) → HasValue r true n 1 → add binary32 r (fin true 0 (pos 0)) ≡ whole true n
unfolding add sum
zero_more nan n v = absurd v
zero_more (inf t) n v = absurd v
zero_more (fin false k d) n v = absurd (false≢true v.0)
zero_more (fin true k d) n v =
    round_same binary32 true (k * up d * 1 + 0 * 1 * down d) (down d * 1) n 1 (subst (λ (z : ℕ). 0 < z) (sym (mul-one (down d))) (down_pos d)) (lit< tt)
    (more (k * up d) (down d) n v.1)
  where
    more : (P D n : ℕ) → P * 1 ≡ n * D → (P * 1 + 0 * 1 * D) * 1 ≡ n * (D * 1)
    more P D n h = omega (arith, mul-one D, h)

-- y is the whole number N
pub taken_off : (k j N : ℕ) (y : Float) → HasValue y false N 1
    → sub binary32 y (shift k j) ≡ cond (ltb N (k * 2 ^ j)) (whole true (k * 2 ^ j - N)) (whole false (N - k * 2 ^ j))
unfolding sub
taken_off k j N nan h = absurd h
taken_off k j N (inf t) h = absurd h
taken_off k j N (fin true i d) h = absurd (true≢false h.0)
taken_off k j N (fin false i d) h =
    ap (λ (z : ℕ). sum binary32 false z true (k * 2 ^ j * down d) (down d * 1)) h.1
    ∙ ap (λ (z : ℕ). sum binary32 false (N * down d) true (k * 2 ^ j * down d) z) (mul-one (down d))
    ∙ sum_off N (k * 2 ^ j) (down d) (down_pos d)

pub one_off : (n : ℕ) (y : Float) → HasValue y false n 1 → sub binary32 y (unit false) ≡ cond (ltb n 1) (whole true (1 - n)) (whole false (n - 1))
one_off n y h = taken_off 1 0 n y h

-- x added
added_plus : (k j m : ℕ) (e : ℤ) → add binary32 (fin false m e) (shift k j) ≡ round binary32 false (m * up e + k * 2 ^ j * down e) (down e)
unfolding add sum
added_plus k j m e = ap (λ (z : ℕ). round binary32 false (z + k * 2 ^ j * down e) (down e * 1)) (mul-one (m * up e)) ∙ ap
    (λ (z : ℕ). round binary32 false (m * up e + k * 2 ^ j * down e) z) (mul-one (down e))

added_minus : (k j m : ℕ) (e : ℤ) → m * up e < k * 2 ^ j * down e → add binary32 (fin true m e) (shift k j) ≡ round binary32 false (k * 2 ^ j * down e - m * up e) (down e)
unfolding add sum
added_minus k j m e l =
    rw (mul-one (m * up e), mul-one (down e), lt-ltb (m * up e) (k * 2 ^ j * down e) l)
    refl

-- ---- `floor`: with 3 * 2 ^ 22, for a size below 2 ^ 22
abbrev pub magic : Float
magic = shift 3 22

abbrev pub near : Float → Float
near x = sub binary32 (add binary32 x magic) magic

pub record Floored (x r : Float) : Type 0 where
  pub same : eq x r ≡ true → x ≡ floor_of x
  pub less : eq x r ≡ false → lt x r ≡ true → sub binary32 r (unit false) ≡ floor_of x
  pub more : eq x r ≡ false → lt x r ≡ false → r ≡ floor_of x
  pub value : (s : Bool) × (n : ℕ) × (r ≡ whole s n) × HasValue r s n 1

-- a whole x is its own floor
same_size : (A D K d n : ℕ) → 0 < d → A * d ≡ K * D → K * 1 ≡ n * d → A ≡ n * D
same_size A D K d n p g h =
    eq_of_mul-eq-mul_right d p A (n * D)
    (g ∙ ap (λ (z : ℕ). z * D) (sym (mul-one K) ∙ h) ∙ mul_right_comm n d D)

pub own : (s : Bool) (m : ℕ) (e : ℤ) (n : ℕ) → T (fits binary32 (fin s m e)) → m * up e ≡ n * down e → fin s m e ≡ whole s (m * up e / down e)
own s m e n h g =
    let q : m * up e / down e ≡ n = ap (λ (z : ℕ). z / down e) g ∙ mul-div_cancel n (down_pos e) in
    whole_unique binary32 (fin s m e) (whole s (m * up e / down e)) s (m * up e / down e) h (whole_fits s (m * up e / down e))
    (refl, mul-one (m * up e) ∙ g ∙ ap (λ (z : ℕ). z * down e) (sym q))
    (trunc_exact s m e h)

pub eq_size : (s : Bool) (m : ℕ) (e : ℤ) (r : Float) (t : Bool) (n : ℕ) → HasValue r t n 1 → eq (fin s m e) r ≡ true → m * up e ≡ n * down e
unfolding eq
eq_size s m e nan t n v g = absurd v
eq_size s m e (inf u) t n v g = absurd v
eq_size s m e (fin u k d) t n v g = same_size (m * up e) (down e) (k * up d) (down d) n (down_pos d) (eqb-true (m * up e * down d) (k * up d * down e) (first _ _ g)) v.1

whole_part : (m : ℕ) (e : ℤ) (n : ℕ) → m * up e ≡ n * down e → m * up e / down e ≡ n
whole_part m e n w = ap (λ (z : ℕ). z / down e) w ∙ mul-div_cancel n (down_pos e)

itself : (s : Bool) (m : ℕ) (e : ℤ) (r : Float) (t : Bool) (n : ℕ) → T (fits binary32 (fin s m e)) → HasValue r t n 1 → eq (fin s m e) r ≡ true → fin s m e ≡ floor_of (fin s m e)
unfolding floor_of
itself false m e r t n h v g = own false m e n h (eq_size false m e r t n v g)
itself true m e r t n h v g =
    let w = eq_size true m e r t n v g in
    own true m e n h w ∙ sym (ap (whole true) (up_same (m * up e) (down e) (down_pos e) (le_of_eq (w ∙ ap (λ (z : ℕ). z * down e) (sym (whole_part m e n w))))))

-- A / D, and A / D taken up, by what lies below and above
pub div_is : (A D n : ℕ) → n * D ≤ A → A < n * D + D → A / D ≡ n
div_is A D n l u = div-eq_of_lt-le D l (subst (λ (z : ℕ). A < z) (sym (add-mul n 1 D ∙ ap (λ (z : ℕ). n * D + z) (one-mul D))) u)

up_is : (A D n : ℕ) → 0 < D → A ≤ n * D → n * D < A + D → up_div A D ≡ n
up_is A D n p l u = div_is (A + (D - 1)) D n (omega arith) (omega arith)

up_reach : (A D : ℕ) → 0 < D → A ≤ up_div A D * D
up_reach A D p = go (up_div A D * D) ((A + (D - 1)) % D) (div-add-mod' (A + (D - 1)) D) (mod-lt (A + (D - 1)) p)
  where
    go : (x r : ℕ) → x + r ≡ A + (D - 1) → r < D → A ≤ x
    go x r e l = omega arith

-- ---- x from 0 up
plus_bounds : (A D N W : ℕ) → 0 < D → A + W * D < N * D + D → N * D < A + W * D + D → (n : ℕ) × (N ≡ W + n) × (A < n * D + D) × (n * D < A + D)
plus_bounds A D N W p a b =
    let w : W < N + 1 = lt_of_mul-lt-mul_right D (omega (arith, add-mul N 1 D, one-mul D)) in
    let i : N ≡ W + (N - W) = omega arith in
    let j : N * D ≡ W * D + (N - W) * D = ap (λ (z : ℕ). z * D) i ∙ add-mul W (N - W) D in
    (N - W, i, omega arith, omega arith)

-- what is left of x from 0 up, with W taken off again: the whole number n, less than 1 away
pub shifted_plus : (k j m : ℕ) (e : ℤ) → 2 ^ 23 ≤ k * 2 ^ j → m * up e + k * 2 ^ j * down e < 2 ^ 24 * down e
    → (n : ℕ)
    × (sub binary32 (add binary32 (fin false m e) (shift k j)) (shift k j) ≡ whole false n)
    × (n ≤ 2 ^ 24)
    × (m * up e < n * down e + down e)
    × (n * down e < m * up e + down e)
    × (closest (m * up e + k * 2 ^ j * down e) (down e) ≡ k * 2 ^ j + n)
shifted_plus k j m e g l =
    let A = m * up e in
    let D = down e in
    let W = k * 2 ^ j in
    let N = closest (A + W * D) D in
    let y = add binary32 (fin false m e) (shift k j) in
    let p = down_pos e in
    let low : 2 ^ 23 * D ≤ A + W * D = omega (arith, mul-le-mul_right D g) in
    let v : HasValue y false N 1 = subst (λ (x : Float). HasValue x false N 1) (sym (added_plus k j m e)) (grid_value (A + W * D) D p low l) in
    let b = plus_bounds A D N W p (closest_above (A + W * D) D p) (closest_below (A + W * D) D p) in
    let n = b.0 in
    let c : ltb N W ≡ false = le-ltb N W (omega (arith, b.1)) in
    let d : N - W ≡ n = omega (arith, b.1) in
    let small : n < 2 ^ 24 + 1 = lt_of_mul-lt-mul_right D (omega (arith, b.3, l, add-mul (2 ^ 24) 1 D, one-mul D)) in
    (n, taken_off k j N y v ∙ rw (c, d) refl, omega arith, b.2, b.3, b.1)

floor_plus : (m : ℕ) (e : ℤ) → T (fits binary32 (fin false m e)) → m * up e < 2 ^ 22 * down e → Floored (fin false m e) (near (fin false m e))
unfolding floor_of
floor_plus m e h l =
    let b = shifted_plus 3 22 m e (lit≤ tt) (omega arith) in
    let n = b.0 in
    let A = m * up e in
    let D = down e in
    let v : HasValue (near (fin false m e)) false n 1 = subst (λ (x : Float). HasValue x false n 1) (sym b.1) (whole_value false n b.2) in
    let lo : eq (fin false m e) (near (fin false m e)) ≡ false → lt (fin false m e) (near (fin false m e)) ≡ true → sub binary32 (near (fin false m e)) (unit false) ≡ whole false (A / D) =
    λ g t. one_off n (near (fin false m e)) v ∙ below A D n (ltb-true A (n * D) (sym (lt_plus m e (near (fin false m e)) n v) ∙ t)) b.4 in
    let hi : eq (fin false m e) (near (fin false m e)) ≡ false → lt (fin false m e) (near (fin false m e)) ≡ false → near (fin false m e) ≡ whole false (A / D) =
    λ g t. b.1 ∙ ap (whole false) (sym (div_is A D n (ltb-false A (n * D) (sym (lt_plus m e (near (fin false m e)) n v) ∙ t)) b.3)) in
    record { same = itself false m e (near (fin false m e)) false n h v; less = lo; more = hi; value = (false, n, b.1, v) }
  where
    below : (A D n : ℕ) → A < n * D → n * D < A + D → cond (ltb n 1) (whole true (1 - n)) (whole false (n - 1)) ≡ whole false (A / D)
    below A D zero u b = absurd (none A D u)
      where
        none : (A D : ℕ) → A < 0 * D → ⊥
        none A D h = omega arith
    below A D (suc n) u b =
        let i : suc n * D ≡ n * D + D = omega (arith, add-mul n 1 D, one-mul D) in
        let c : ltb (suc n) 1 ≡ false = le-ltb (suc n) 1 (omega arith) in
        let j : suc n - 1 ≡ n = omega arith in
        rw (c, j) (ap (whole false) (sym (div_is A D n (omega arith) (omega arith))))

-- ---- x below 0, or -0
near_minus : (m : ℕ) (e : ℤ) → m * up e < 2 ^ 22 * down e
    → ((near (fin true m e) ≡ whole false 0) × (m * up e < down e))
    ⊎ ((n : ℕ) × (near (fin true m e) ≡ whole true n) × (n ≤ 2 ^ 24) × (m * up e < n * down e + down e) × (n * down e < m * up e + down e) × (0 < n))
near_minus m e l =
    let A = m * up e in
    let D = down e in
    let W = 3 * 2 ^ 22 in
    let N = closest (W * D - A) D in
    let p = down_pos e in
    let v : HasValue (add binary32 (fin true m e) magic) false N 1 =
    subst (λ (x : Float). HasValue x false N 1) (sym (added_minus 3 22 m e (omega arith))) (grid_value (W * D - A) D p (omega arith) (omega arith)) in
    go N (taken_off 3 22 N (add binary32 (fin true m e) magic) v) (closest_above (W * D - A) D p) (closest_below (W * D - A) D p) (below_or_not N W)
  where
    go : (N : ℕ) → near (fin true m e) ≡ cond (ltb N 12582912) (whole true (12582912 - N)) (whole false (N - 12582912))
        → 12582912 * down e - m * up e < N * down e + down e → N * down e < 12582912 * down e - m * up e + down e → (N < 12582912) ⊎ (12582912 ≤ N)
        → ((near (fin true m e) ≡ whole false 0) × (m * up e < down e))
        ⊎ ((n : ℕ) × (near (fin true m e) ≡ whole true n) × (n ≤ 2 ^ 24) × (m * up e < n * down e + down e) × (n * down e < m * up e + down e) × (0 < n))
    go N i a b (inr g) =
        let D = down e in
        let n = N - 12582912 in
        let j : N * D ≡ 12582912 * D + n * D = ap (λ (z : ℕ). z * D) (back N g) ∙ add-mul 12582912 n D in
        let z : n < 1 = lt_of_mul-lt-mul_right D (omega (arith, one-mul D)) in
        let y : n ≡ 0 = omega arith in
        inl (i ∙ rw (le-ltb N 12582912 g, y) refl, omega arith)
      where
        back : (N : ℕ) → 12582912 ≤ N → N ≡ 12582912 + (N - 12582912)
        back N h = omega arith
    go N i a b (inl g) =
        let D = down e in
        let n = 12582912 - N in
        let j : N * D + n * D ≡ 12582912 * D = sym (add-mul N n D) ∙ ap (λ (z : ℕ). z * D) (back N g) in
        inr (n, i ∙ rw (lt-ltb N 12582912 g) refl, less N, omega arith, omega arith, some N g)
      where
        back : (N : ℕ) → N < 12582912 → N + (12582912 - N) ≡ 12582912
        back N h = omega arith

        less : (N : ℕ) → 12582912 - N ≤ 2 ^ 24
        less N = omega arith

        some : (N : ℕ) → N < 12582912 → 0 < 12582912 - N
        some N h = omega arith

zero_is : whole false 0 ≡ fin false 0 (pos 0)
unfolding round
zero_is = refl

-- between -1 and 0 what is left is 0
floor_zero : (m : ℕ) (e : ℤ) (r : Float) → T (fits binary32 (fin true m e)) → r ≡ fin false 0 (pos 0) → m * up e < down e → Floored (fin true m e) r
unfolding floor_of lt eq
floor_zero m e r h i l =
    let A = m * up e in
    let D = down e in
    let v : HasValue r false 0 1 = subst (λ (x : Float). HasValue x false 0 1) (sym i) (refl, refl) in
    let lo : eq (fin true m e) r ≡ false → lt (fin true m e) r ≡ true → sub binary32 r (unit false) ≡ whole true (up_div A D) =
    λ g t. one_off 0 r v ∙ ap (whole true) (sym (up_is A D 1 (down_pos e) (omega arith) (one A D (ltb-true 0 (A * 1 + 0 * 1 * D) (sym (ap (λ (x : Float). lt (fin true m e) x) i) ∙ t))))) in
    let hi : eq (fin true m e) r ≡ false → lt (fin true m e) r ≡ false → r ≡ whole true (up_div A D) =
    λ g t.
    let z : A ≡ 0 = none A D (ltb-false 0 (A * 1 + 0 * 1 * D) (sym (ap (λ (x : Float). lt (fin true m e) x) i) ∙ t)) in
    absurd (true≢false (sym (level_zero A D z) ∙ sym (ap (λ (x : Float). eq (fin true m e) x) i) ∙ g)) in
    record { same = itself true m e r false 0 h v; less = lo; more = hi; value = (false, 0, i ∙ sym zero_is, v) }
  where
    one : (A D : ℕ) → 0 < A * 1 + 0 * 1 * D → 1 * D < A + D
    one A D h = omega arith

    none : (A D : ℕ) → A * 1 + 0 * 1 * D ≤ 0 → A ≡ 0
    none A D h = omega arith

    flat : (A : ℕ) → A ≡ 0 → A * 1 ≡ 0
    flat A h = omega arith

    void : (D : ℕ) → 0 * 1 * D ≡ 0
    void D = omega arith

    level_zero : (A D : ℕ) → A ≡ 0 → level true (A * 1) false (0 * 1 * D) ≡ true
    level_zero A D z = rw (flat A z, void D) refl

floor_minus : (m : ℕ) (e : ℤ) → T (fits binary32 (fin true m e)) → m * up e < 2 ^ 22 * down e → Floored (fin true m e) (near (fin true m e))
unfolding floor_of
floor_minus m e h l = go (near_minus m e l)
  where
    go : ((near (fin true m e) ≡ whole false 0) × (m * up e < down e))
        ⊎ ((n : ℕ) × (near (fin true m e) ≡ whole true n) × (n ≤ 2 ^ 24) × (m * up e < n * down e + down e) × (n * down e < m * up e + down e) × (0 < n))
        → Floored (fin true m e) (near (fin true m e))
    go (inl w) = floor_zero m e (near (fin true m e)) h (w.0 ∙ zero_is) w.1
    go (inr b) =
        let n = b.0 in
        let A = m * up e in
        let D = down e in
        let r = near (fin true m e) in
        let v : HasValue r true n 1 = subst (λ (x : Float). HasValue x true n 1) (sym b.1) (whole_value true n b.2) in
        let lo : eq (fin true m e) r ≡ false → lt (fin true m e) r ≡ true → sub binary32 r (unit false) ≡ whole true (up_div A D) =
        λ g t. one_less r n v ∙ ap (whole true) (sym (more A D n (down_pos e) (ltb-true (n * D) A (sym (lt_minus m e r n v) ∙ t)) b.3)) in
        let hi : eq (fin true m e) r ≡ false → lt (fin true m e) r ≡ false → r ≡ whole true (up_div A D) =
        λ g t. b.1 ∙ ap (whole true) (sym (up_is A D n (down_pos e) (ltb-false (n * D) A (sym (lt_minus m e r n v) ∙ t)) b.4)) in
        record { same = itself true m e r true n h v; less = lo; more = hi; value = (true, n, b.1, v) }
      where
        more : (A D n : ℕ) → 0 < D → n * D < A → A < n * D + D → up_div A D ≡ n + 1
        more A D n p u w =
            let i : (n + 1) * D ≡ n * D + D = omega (arith, add-mul n 1 D, one-mul D) in
            up_is A D (n + 1) p (omega arith) (omega arith)

-- ---- both: 2 ^ 22 is the limit

pub floor_near : (x : Float) → T (fits binary32 x) → lt x (limit false) ≡ true → lt (limit true) x ≡ true → Floored x (near x)
unfolding lt
floor_near nan h l u = absurd (false≢true l)
floor_near (inf true) h l u = absurd (false≢true u)
floor_near (inf false) h l u = absurd (false≢true l)
floor_near (fin false m e) h l u = floor_plus m e h (ltb-true (m * up e) (4194304 * down e) (sym (lt_plus m e (limit false) 4194304 (refl, refl)) ∙ l))
floor_near (fin true m e) h l u = floor_minus m e h (ltb-true (m * up e) (4194304 * down e) (sym (gt_minus m e (limit true) 4194304 (refl, refl)) ∙ u))

-- ---- what `floor` makes of it: one less or none, and the smaller of that and x
none_off : (r : Float) (s : Bool) (n : ℕ) → HasValue r s n 1 → sub binary32 r (fin false 0 (pos 0)) ≡ whole s n
none_off r false n v = taken_off 0 0 n r v ∙ rw (le-ltb n 0 zero-le) (ap (whole false) (sub-zero n))
none_off r true n v = minus_none r n v
  where
    minus_none : (r : Float) (n : ℕ) → HasValue r true n 1 → sub binary32 r (fin false 0 (pos 0)) ≡ whole true n
    minus_none r n v = unfold sub in zero_more r n v

pub floor_own : (x : Float) → T (fits binary32 x) → T (finite x) → lt (floor_of x) x ≡ false → x ≡ floor_of x
unfolding floor_of
floor_own nan h f l = absurd f
floor_own (inf s) h f l = absurd f
floor_own (fin false m e) h f l =
    let q = m * up e / down e in
    own false m e q h (le_antisymm (ltb-false (q * down e) (m * up e) (sym (gt_plus m e (whole false q) q (trunc_exact false m e h)) ∙ l)) (div-mul-le_self (m * up e) (down e)))
floor_own (fin true m e) h f l =
    let p = up_div (m * up e) (down e) in
    let g : p * down e ≤ m * up e = ltb-false (m * up e) (p * down e) (sym (gt_minus m e (whole true p) p (up_exact true m e h)) ∙ l) in
    let w : m * up e ≡ p * down e = le_antisymm (up_reach (m * up e) (down e) (down_pos e)) g in
    own true m e p h w ∙ ap (whole true) (whole_part m e p w)

near_finite : (x : Float) → lt x (limit false) ≡ true → lt (limit true) x ≡ true → T (finite x)
unfolding lt
near_finite nan l u = absurd (false≢true l)
near_finite (inf true) l u = absurd (false≢true u)
near_finite (inf false) l u = absurd (false≢true l)
near_finite (fin s m e) l u = tt

-- f is what is left, less the step
pub record Least (x f : Float) : Type 0 where
  pub below : lt f x ≡ true → f ≡ floor_of x
  pub level : lt f x ≡ false → x ≡ floor_of x

pub floor_least : (x step : Float) → T (fits binary32 x) → lt x (limit false) ≡ true → lt (limit true) x ≡ true
    → ((lt x (near x) ≡ true) × (step ≡ unit false)) ⊎ ((lt x (near x) ≡ false) × (step ≡ fin false 0 (pos 0)))
    → Least x (sub binary32 (near x) step)
floor_least x step h l u w = go (floor_near x h l u) (eq x (near x)) refl w
  where
    clash : {b : Bool} → b ≡ true → b ≡ false → ⊥
    clash p q = true≢false (sym p ∙ q)

    stays : (F : Floored x (near x)) → step ≡ fin false 0 (pos 0) → sub binary32 (near x) step ≡ near x
    stays F p = ap (sub binary32 (near x)) p ∙ none_off (near x) F.value.0 F.value.1 F.value.3 ∙ sym F.value.2

    from : sub binary32 (near x) step ≡ floor_of x → Least x (sub binary32 (near x) step)
    from i = record { below = λ t. i; level = λ t. floor_own x h (near_finite x l u) (sym (ap (λ (y : Float). lt y x) i) ∙ t) }

    go : Floored x (near x) → (t : Bool) → eq x (near x) ≡ t → ((lt x (near x) ≡ true) × (step ≡ unit false)) ⊎
        ((lt x (near x) ≡ false) × (step ≡ fin false 0 (pos 0))) → Least x (sub binary32 (near x) step)
    go F false e (inl w) = from (ap (sub binary32 (near x)) w.1 ∙ F.less e w.0)
    go F false e (inr w) = from (stays F w.1 ∙ F.more e w.0)
    go F true e (inl w) = absurd (clash w.0 (eq_not_lt x (near x) e))
    go F true e (inr w) = record { below = λ t. absurd (clash (sym (ap (λ (y : Float). lt y x) (stays F w.1)) ∙ t) (eq_not_gt x (near x) e)); level = λ t. F.same e }

-- ---- x equals what is left just where it equals its floor
no_whole_between : (D n q : ℕ) → q * D < n * D → n * D < q * D + D → ⊥
no_whole_between D n q l u =
    let a : q < n = lt_of_mul-lt-mul_right D l in
    let b : n < q + 1 = lt_of_mul-lt-mul_right D (omega (arith, add-mul q 1 D, one-mul D)) in
    omega arith

-- a whole x is not below what is left of it, which is less than 1 away
below_plus : (m : ℕ) (e : ℤ) → T (fits binary32 (fin false m e)) → m * up e < 2 ^ 22 * down e → lt (fin false m e) (near (fin false m e)) ≡ true
    → eq (fin false m e) (floor_of (fin false m e)) ≡ true → ⊥
unfolding floor_of
below_plus m e h l t g =
    let b = shifted_plus 3 22 m e (lit≤ tt) (omega arith) in
    let n = b.0 in
    let q = m * up e / down e in
    let r = near (fin false m e) in
    let v : HasValue r false n 1 = subst (λ (x : Float). HasValue x false n 1) (sym b.1) (whole_value false n b.2) in
    let w : m * up e ≡ q * down e = eq_size false m e (whole false q) false q (trunc_exact false m e h) g in
    let a : m * up e < n * down e = ltb-true (m * up e) (n * down e) (sym (lt_plus m e r n v) ∙ t) in
    no_whole_between (down e) n q (subst (λ (z : ℕ). z < n * down e) w a) (subst (λ (z : ℕ). n * down e < z + down e) w b.4)

lt_zero : (m : ℕ) (e : ℤ) → lt (fin true m e) (fin false 0 (pos 0)) ≡ true → 0 * down e < m * up e
unfolding lt
lt_zero m e t = some (m * up e) (down e) (ltb-true 0 (m * up e * 1 + 0 * 1 * down e) t)
  where
    some : (A D : ℕ) → 0 < A * 1 + 0 * 1 * D → 0 * D < A
    some A D h = omega arith

below_minus : (m : ℕ) (e : ℤ) → T (fits binary32 (fin true m e)) → m * up e < 2 ^ 22 * down e → lt (fin true m e) (near (fin true m e)) ≡ true
    → eq (fin true m e) (floor_of (fin true m e)) ≡ true → ⊥
unfolding floor_of
below_minus m e h l t g = go (near_minus m e l)
  where
    clash : (n : ℕ) → n * down e < m * up e → m * up e < n * down e + down e → ⊥
    clash n a b =
        let p = up_div (m * up e) (down e) in
        let w : m * up e ≡ p * down e = eq_size true m e (whole true p) true p (up_exact true m e h) g in
        no_whole_between (down e) p n (subst (λ (z : ℕ). n * down e < z) w a) (subst (λ (z : ℕ). z < n * down e + down e) w b)

    one : (A D : ℕ) → A < D → A < 0 * D + D
    one A D h = omega arith

    go : ((near (fin true m e) ≡ whole false 0) × (m * up e < down e))
        ⊎ ((n : ℕ) × (near (fin true m e) ≡ whole true n) × (n ≤ 2 ^ 24) × (m * up e < n * down e + down e) × (n * down e < m * up e + down e) × (0 < n))
        → ⊥
    go (inl w) = clash 0 (lt_zero m e (sym (ap (λ (x : Float). lt (fin true m e) x) (w.0 ∙ zero_is)) ∙ t)) (one (m * up e) (down e) w.1)
    go (inr b) =
        let n = b.0 in
        let r = near (fin true m e) in
        let v : HasValue r true n 1 = subst (λ (x : Float). HasValue x true n 1) (sym b.1) (whole_value true n b.2) in
        clash n (ltb-true (n * down e) (m * up e) (sym (lt_minus m e r n v) ∙ t)) b.3

below_near : (x : Float) → T (fits binary32 x) → lt x (limit false) ≡ true → lt (limit true) x ≡ true → lt x (near x) ≡ true → eq x (floor_of x) ≡ true → ⊥
unfolding lt
below_near nan h l u t g = absurd (false≢true l)
below_near (inf true) h l u t g = absurd (false≢true u)
below_near (inf false) h l u t g = absurd (false≢true l)
below_near (fin false m e) h l u t g = below_plus m e h (ltb-true (m * up e) (4194304 * down e) (sym (lt_plus m e (limit false) 4194304 (refl, refl)) ∙ l)) t g
below_near (fin true m e) h l u t g = below_minus m e h (ltb-true (m * up e) (4194304 * down e) (sym (gt_minus m e (limit true) 4194304 (refl, refl)) ∙ u)) t g

eq_self : (x : Float) → T (finite x) → eq x x ≡ true
unfolding eq
eq_self nan f = absurd f
eq_self (inf s) f = absurd f
eq_self (fin false m e) f = ap (λ (t : Bool). t && true) (eq-eqb (m * up e * down e) (m * up e * down e) refl)
eq_self (fin true m e) f = ap (λ (t : Bool). t && true) (eq-eqb (m * up e * down e) (m * up e * down e) refl)

pub whole_near : (x : Float) → T (fits binary32 x) → lt x (limit false) ≡ true → lt (limit true) x ≡ true → eq x (near x) ≡ eq x (floor_of x)
whole_near x h l u = go (floor_near x h l u) (eq x (near x)) refl (lt x (near x)) refl
  where
    off : (b : Bool) → (b ≡ true → ⊥) → false ≡ b
    off true n = absurd (n refl)
    off false n = refl

    go : Floored x (near x) → (t : Bool) → eq x (near x) ≡ t → (s : Bool) → lt x (near x) ≡ s → t ≡ eq x (floor_of x)
    go F true e s i = subst (λ (y : Float). true ≡ eq x y) (F.same e) (sym (eq_self x (near_finite x l u)))
    go F false e false i = sym e ∙ ap (λ (y : Float). eq x y) (F.more e i)
    go F false e true i = off (eq x (floor_of x)) (below_near x h l u i)

-- ---- a whole x as an integer, by what is left
abbrev Cast : Float → Float → Type 0
Cast x r = T (in_signed binary32 31 r) × (to_signed 31 r ≡ to_signed 31 x)

cut_is : (s : Bool) (m : ℕ) (e : ℤ) (n : ℕ) → m * up e ≡ n * down e → n ≤ 2 ^ 24 → to_signed 31 (fin s m e) ≡ cond s (neg_ℤ (pos n)) (pos n)
unfolding to_signed
cut_is s m e n w l =
    let a : min n (2 ^ 31) ≡ n = omega arith in
    let b : min n (2 ^ 31 - 1) ≡ n = omega arith in
    rw (whole_part m e n w, a, b) refl

plus_cast : (x : Float) (n : ℕ) → n ≤ 2 ^ 24 → to_signed 31 x ≡ pos n → Cast x (whole false n)
unfolding in_float of_int
plus_cast x n l g = let b = positive_back binary32 31 n (le→leb n (2 ^ 24) l) (lt_of_le_of_lt l (lit< tt)) in (b.0, b.1 ∙ sym g)

minus_cast : (x : Float) (n : ℕ) → 0 < n → n ≤ 2 ^ 24 → to_signed 31 x ≡ neg_ℤ (pos n) → Cast x (whole true n)
unfolding in_float of_int
minus_cast x zero p l g = absurd (lt_irrefl 0 p)
minus_cast x (suc n) p l g = let b = negative_back binary32 31 n (lt→ltb n (2 ^ 24) l) (le_trans l (lit≤ tt)) in (b.0, b.1 ∙ sym g)

pub near_cast : (x : Float) → eq x (near x) ≡ true → lt x (limit false) ≡ true → lt (limit true) x ≡ true → Cast x (near x)
unfolding lt
near_cast nan g l u = absurd (false≢true l)
near_cast (inf true) g l u = absurd (false≢true u)
near_cast (inf false) g l u = absurd (false≢true l)
near_cast (fin false m e) g l u =
    let a : m * up e < 4194304 * down e = ltb-true (m * up e) (4194304 * down e) (sym (lt_plus m e (limit false) 4194304 (refl, refl)) ∙ l) in
    let b = shifted_plus 3 22 m e (lit≤ tt) (omega arith) in
    let v : HasValue (near (fin false m e)) false b.0 1 = subst (λ (x : Float). HasValue x false b.0 1) (sym b.1) (whole_value false b.0 b.2) in
    subst (Cast (fin false m e)) (sym b.1) (plus_cast (fin false m e) b.0 b.2 (cut_is false m e b.0 (eq_size false m e (near (fin false m e)) false b.0 v g) b.2))
near_cast (fin true m e) g l u = go (near_minus m e (ltb-true (m * up e) (4194304 * down e) (sym (gt_minus m e (limit true) 4194304 (refl, refl)) ∙ u)))
  where
    go : ((near (fin true m e) ≡ whole false 0) × (m * up e < down e))
        ⊎ ((n : ℕ) × (near (fin true m e) ≡ whole true n) × (n ≤ 2 ^ 24) × (m * up e < n * down e + down e) × (n * down e < m * up e + down e) × (0 < n))
        → Cast (fin true m e) (near (fin true m e))
    go (inl w) =
        let v : HasValue (near (fin true m e)) false 0 1 = subst (λ (x : Float). HasValue x false 0 1) (sym w.0) (whole_value false 0 (lit≤ tt)) in
        subst (Cast (fin true m e)) (sym w.0) (plus_cast (fin true m e) 0 (lit≤ tt) (cut_is true m e 0 (eq_size true m e (near (fin true m e)) false 0 v g) (lit≤ tt)))
    go (inr b) =
        let n = b.0 in
        let v : HasValue (near (fin true m e)) true n 1 = subst (λ (x : Float). HasValue x true n 1) (sym b.1) (whole_value true n b.2) in
        subst (Cast (fin true m e)) (sym b.1) (minus_cast (fin true m e) n b.5 b.2 (cut_is true m e n (eq_size true m e (near (fin true m e)) true n v g) b.2))

count_back : (n : ℕ) → n ≤ 2 ^ 24 → T (in_unsigned binary32 32 (whole false n)) × (to_unsigned 32 (whole false n) ≡ n)
unfolding in_float of_int
count_back n l = unsigned_back binary32 32 n (le→leb n (2 ^ 24) l) (lt_of_le_of_lt l (lit< tt))

-- and of one above 0 as one with no sign
pub near_count : (x : Float) → eq x (near x) ≡ true → lt x (limit false) ≡ true → lt (fin false 0 (pos 0)) x ≡ true
    → T (in_unsigned binary32 32 (near x)) × (to_unsigned 32 (near x) ≡ to_unsigned 32 x)
unfolding lt to_unsigned
near_count nan g l u = absurd (false≢true l)
near_count (inf true) g l u = absurd (false≢true u)
near_count (inf false) g l u = absurd (false≢true l)
near_count (fin true m e) g l u = absurd (false≢true u)
near_count (fin false m e) g l u =
    let a : m * up e < 4194304 * down e = ltb-true (m * up e) (4194304 * down e) (sym (lt_plus m e (limit false) 4194304 (refl, refl)) ∙ l) in
    let b = shifted_plus 3 22 m e (lit≤ tt) (omega arith) in
    let n = b.0 in
    let v : HasValue (near (fin false m e)) false n 1 = subst (λ (x : Float). HasValue x false n 1) (sym b.1) (whole_value false n b.2) in
    let c : min n (2 ^ 32 - 1) ≡ n = omega (arith, b.2) in
    let w : to_unsigned 32 (fin false m e) ≡ n = ap (λ (z : ℕ). min z (2 ^ 32 - 1)) (whole_part m e n (eq_size false m e (near (fin false m e)) false n v g)) ∙ c in
    let i = count_back n b.2 in
    (subst (λ (r : Float). T (in_unsigned binary32 32 r)) (sym b.1) i.0, ap (to_unsigned 32) b.1 ∙ i.1 ∙ sym w)

-- ---- a rounded fraction with its sign turned
odd_turned : (d : ℕ) (s : Bool) (q k l : ℕ) → neg (odd d s q k l) ≡ odd d (not s) q k l
unfolding odd neg
odd_turned d s zero k l = refl
odd_turned d s (suc q) k l = refl

units_turned : (s : Bool) (q k : ℕ) → neg (units binary32 s q k) ≡ units binary32 (not s) q k
unfolding units neg
units_turned s q k = go (ltb (q * 2 ^ k) (2 ^ 277))
  where
    go : (b : Bool) → neg (cond b (odd 25 s q k 149) (inf s)) ≡ cond b (odd 25 (not s) q k 149) (inf (not s))
    go true = odd_turned 25 s q k 149
    go false = refl

pub round_turned : (s : Bool) (a c : ℕ) → neg (round binary32 s a c) ≡ round binary32 (not s) a c
round_turned s a c = ap neg (round_is binary32 s a c) ∙ units_turned s _ (size (a * 2 ^ 149 / c) - 24) ∙ sym (round_is binary32 (not s) a c)

-- ---- `ceil` is `floor` with the signs turned
pub ceil_turned : (x : Float) → neg (floor_of (neg x)) ≡ ceil_of x
unfolding neg floor_of ceil_of
ceil_turned nan = refl
ceil_turned (inf true) = refl
ceil_turned (inf false) = refl
ceil_turned (fin true m e) = round_turned false (m * up e / down e) 1
ceil_turned (fin false m e) = round_turned true (up_div (m * up e) (down e)) 1
