-- Floats from 0 up as whole numbers of parts, 2 ^ -149 each: sums, products and quotients are exact fractions, rounded once. Assumes nothing.
--     own_parts               a finite `f32` with the sign plus is a whole number of parts
--     parts_round, round_parts   a number of parts rounds to the float, and what is rounded and finite has parts
--     add_is, mul_is, one_over   sums, products, and 1 over a number
--     le_parts                the order
use mathlib.Core.Path.{◌≡◌, refl, sym, ap, ◌∙◌, subst}
use mathlib.Core.Bool.{Bool, true, false, cond, true≢false}
use mathlib.Core.Logic.{◌⊎◌, inl, inr}
use Prim.Native.Nat.{ℕ, zero, suc, ◌+◌, ◌-◌, ◌*◌, ◌^◌, ◌≤◌, ◌<◌}
use native.Mathlib.Nat.{
  le_trans,
  le_of_eq,
  lt_of_lt_of_le,
  lt_irrefl,
  mul-one,
  one-mul,
  zero-mul,
  mul_assoc,
  mul_comm,
  mul_left_comm,
  mul_right_comm,
  mul-mul-mul_comm,
  mul-pos,
  add-mul,
  mul-le-mul_right,
}
use native.Mathlib.Omega.{arith}
use lib.Dec.{T, eqb}
use lib.IntN.{pos, negsuc}
use lib.Pow.{pow-add, pow_pos, pow-lt}
use lib.Ieee.{Float, nan, inf, fin, binary32, up, down, round, sum, add, mul, div, lt, le, fits, of_bits}
use lib.Ieee.Bits.{is_true}
use lib.Ieee.Fits.{down_pos, up_pos}
use lib.Ieee.Order.{round_mono, transfer}
use lib.Ieee.Scale.{round_same, round_val, round_under, grid, finite}
use borrow.Author.Tests.{ltb-false, ne_eqb, le-ltb}
use Rattle.float32.specs.Meaning.{sign_of}
use Rattle.float32.proofs.Order.{not_lt_of_le}
use Rattle.float32.proofs.Floors.{not_low}
use Rattle.float32.proofs.Same.{round_own}
use Rattle.float32.proofs.Tests.{below_or_not}
use Rattle.util.specs.Constants.{one}
use Rattle.errors.specs.Sizes.{parts, Is, Zero}

pub parts_pos : 0 < parts
unfolding parts
parts_pos = pow_pos 149

-- ---- a float's parts
pow_back : (i : ℕ) → 2 ^ i ≤ 2 ^ 149 → i ≤ 149
pow_back i h = go (below_or_not 149 i)
  where
    go : (149 < i) ⊎ (i ≤ 149) → i ≤ 149
    go (inl g) = absurd (lt_irrefl (2 ^ 149) (lt_of_lt_of_le (pow-lt g) h))
    go (inr g) = g

join : (i : ℕ) → i ≤ 149 → 149 - i + i ≡ 149
join i h = omega arith

pub own_parts : (x : Float) → T (fits binary32 x) → T (finite x) → sign_of x ≡ false → (n : ℕ) × Is x n
unfolding sign_of parts
own_parts nan h f s = absurd f
own_parts (inf t) h f s = absurd f
own_parts (fin true m e) h f s = absurd (true≢false s)
own_parts (fin false m (pos k)) h f s = (m * 2 ^ k * 2 ^ 149, (refl, sym (mul-one (m * 2 ^ k * 2 ^ 149))))
own_parts (fin false m (negsuc k)) h f s =
    let j = 149 - suc k in
    let e : 2 ^ 149 ≡ 2 ^ j * 2 ^ suc k = ap (λ (i : ℕ). 2 ^ i) (sym (join (suc k) (pow_back (suc k) (not_low false m (negsuc k) h)))) ∙ pow-add 2 j (suc k) in
    (m * 2 ^ j, (refl, ap (λ (z : ℕ). z * 2 ^ 149) (mul-one m) ∙ ap (λ (z : ℕ). m * z) e ∙ sym (mul_assoc m (2 ^ j) (2 ^ suc k))))

pub parts_round : (x : Float) (n : ℕ) → T (fits binary32 x) → Is x n → round binary32 false n parts ≡ x
parts_round nan n h v = absurd v
parts_round (inf t) n h v = absurd v
parts_round (fin true m e) n h v = absurd (true≢false v.0)
parts_round (fin false m e) n h v = round_same binary32 false n parts (m * up e) (down e) parts_pos (down_pos e) (sym v.1) ∙ round_own false m e h

pub round_parts : (a c : ℕ) → T (finite (round binary32 false a c)) → Is (round binary32 false a c) (grid binary32 a c)
unfolding parts
round_parts a c f = round_val binary32 a c (round_under binary32 a c f)

-- ---- the order
pub le_parts : (x y : Float) (n m : ℕ) → Is x n → Is y m → le x y ≡ true → n ≤ m
unfolding lt
le_parts nan y n m v w h = absurd v
le_parts (inf s) y n m v w h = absurd v
le_parts (fin true a e) y n m v w h = absurd (true≢false v.0)
le_parts (fin false a e) nan n m v w h = absurd w
le_parts (fin false a e) (inf t) n m v w h = absurd w
le_parts (fin false a e) (fin true b d) n m v w h = absurd (true≢false w.0)
le_parts (fin false a e) (fin false b d) n m v w h =
    let c : a * up e * down d ≤ b * up d * down e = ltb-false (b * up d * down e) (a * up e * down d) (not_lt_of_le (fin false a e) (fin false b d) h) in
    native.Mathlib.Nat.le_of_mul-le-mul_right (transfer n m parts parts (a * up e) (b * up d) (down e) (down d) (down_pos e) (down_pos d) (sym v.1) (sym w.1) c) parts_pos

-- what is rounded isn't below a float that the fraction isn't below
pub round_above : (x : Float) (n a c : ℕ) → T (fits binary32 x) → Is x n → 0 < c → n * c ≤ a * parts → T (finite (round binary32 false a c)) → n ≤ grid binary32 a c
round_above x n a c h v C l f =
    le_parts x (round binary32 false a c) n (grid binary32 a c) v (round_parts a c f)
    (subst (λ (y : Float). le y (round binary32 false a c) ≡ true) (parts_round x n h v)
    (is_true (le (round binary32 false n parts) (round binary32 false a c)) (round_mono binary32 n parts a c parts_pos C l)))

-- ---- sums
sums : (A D B E P n m : ℕ) → A * P ≡ n * D → B * P ≡ m * E → (A * E + B * D) * P ≡ (n + m) * (D * E)
sums A D B E P n m h k =
    add-mul (A * E) (B * D) P
    ∙ ap (λ (z : ℕ). z + B * D * P) (mul_right_comm A E P ∙ ap (λ (z : ℕ). z * E) h ∙ mul_assoc n D E)
    ∙ ap (λ (z : ℕ). n * (D * E) + z) (mul_right_comm B D P ∙ ap (λ (z : ℕ). z * D) k ∙ mul_assoc m E D ∙ ap (λ (z : ℕ). m * z) (mul_comm E D))
    ∙ sym (add-mul n m (D * E))

pub add_is : (x y : Float) (n m : ℕ) → Is x n → Is y m → add binary32 x y ≡ round binary32 false (n + m) parts
unfolding add sum
add_is nan y n m v w = absurd v
add_is (inf s) y n m v w = absurd v
add_is (fin true a e) y n m v w = absurd (true≢false v.0)
add_is (fin false a e) nan n m v w = absurd w
add_is (fin false a e) (inf t) n m v w = absurd w
add_is (fin false a e) (fin true b d) n m v w = absurd (true≢false w.0)
add_is (fin false a e) (fin false b d) n m v w =
    round_same binary32 false (a * up e * down d + b * up d * down e) (down e * down d) (n + m) parts (mul-pos (down_pos e) (down_pos d)) parts_pos
    (sums (a * up e) (down e) (b * up d) (down d) parts n m v.1 w.1)

-- a zero changes nothing, of either sign
pub add_none : (x y : Float) (n : ℕ) → Is x n → Zero y → add binary32 x y ≡ round binary32 false n parts
unfolding add sum
add_none nan y n v z = absurd v
add_none (inf s) y n v z = absurd v
add_none (fin true a e) y n v z = absurd (true≢false v.0)
add_none (fin false a e) nan n v z = absurd z
add_none (fin false a e) (inf t) n v z = absurd z
add_none (fin false a e) (fin t b d) n v z =
    let A = a * up e * down d in
    let B = b * up d * down e in
    let none : B ≡ 0 = ap (λ (k : ℕ). k * up d * down e) z ∙ ap (λ (k : ℕ). k * down e) (zero-mul (up d)) ∙ zero-mul (down e) in
    last t A B none
    ∙ round_same binary32 false A (down e * down d) n parts (mul-pos (down_pos e) (down_pos d)) parts_pos
    (mul_right_comm (a * up e) (down d) parts ∙ ap (λ (k : ℕ). k * down d) v.1 ∙ mul_assoc n (down e) (down d))
  where
    c : ℕ
    c = down e * down d

    last : (t : Bool) (A B : ℕ) → B ≡ 0 → sum binary32 false A t B c ≡ round binary32 false A c
    last false A B z = unfold sum in ap (λ (k : ℕ). round binary32 false k c) (more A B z)
      where
        more : (A B : ℕ) → B ≡ 0 → A + B ≡ A
        more A B z = omega arith
    last true A B z = unfold sum in rw (le-ltb A B (over A B z)) (ap (λ (k : ℕ). round binary32 false k c) (less A B z))
      where
        over : (A B : ℕ) → B ≡ 0 → B ≤ A
        over A B z = omega arith

        less : (A B : ℕ) → B ≡ 0 → A - B ≡ A
        less A B z = omega arith

-- ---- products
pub mul_is : (x y : Float) (n m : ℕ) → Is x n → Is y m → mul binary32 x y ≡ round binary32 false (n * m) (parts * parts)
unfolding mul
mul_is nan y n m v w = absurd v
mul_is (inf s) y n m v w = absurd v
mul_is (fin true a e) y n m v w = absurd (true≢false v.0)
mul_is (fin false a e) nan n m v w = absurd w
mul_is (fin false a e) (inf t) n m v w = absurd w
mul_is (fin false a e) (fin true b d) n m v w = absurd (true≢false w.0)
mul_is (fin false a e) (fin false b d) n m v w =
    round_same binary32 false (a * up e * (b * up d)) (down e * down d) (n * m) (parts * parts) (mul-pos (down_pos e) (down_pos d)) (mul-pos parts_pos parts_pos)
    (mul-mul-mul_comm (a * up e) (b * up d) parts parts ∙ ap (λ (z : ℕ). z * (b * up d * parts)) v.1 ∙ ap (λ (z : ℕ). n * down e * z) w.1 ∙ mul-mul-mul_comm n (down e) m (down d))

-- ---- 1 over a number above 0
some : (n : ℕ) → 0 < n → n ≡ 0 → ⊥
some n h e = omega arith

pub one_over : (y : Float) (m : ℕ) → Is y m → 0 < m → div binary32 one y ≡ round binary32 false parts m
unfolding div of_bits
one_over nan m w M = absurd w
one_over (inf t) m w M = absurd w
one_over (fin true b d) m w M = absurd (true≢false w.0)
one_over (fin false b d) m w M =
    let above : 0 < b * up d * parts = subst (λ (z : ℕ). 0 < z) (sym w.1) (mul-pos M (down_pos d)) in
    let num : 0 < b * up d = lib.Ieee.Positive.first_pos (b * up d) parts above in
    rw (ne_eqb b 0 (some b (lib.Ieee.Positive.first_pos b (up d) num)))
    (round_same binary32 false (1 * 1 * down d) (b * up d * 1) parts m (subst (λ (z : ℕ). 0 < z) (sym (mul-one (b * up d))) num) M
    (ap (λ (z : ℕ). z * m) (one-mul (down d)) ∙ mul_comm (down d) m ∙ sym w.1 ∙ mul_comm (b * up d) parts ∙ ap (λ (z : ℕ). parts * z) (sym (mul-one (b * up d)))))

-- 1 over 0
pub over_none : (y : Float) → Is y 0 → div binary32 one y ≡ inf false
unfolding div of_bits
over_none nan w = absurd w
over_none (inf t) w = absurd w
over_none (fin true b d) w = absurd (true≢false w.0)
over_none (fin false b d) w = go b w.1
  where
    go : (b : ℕ) → b * up d * parts ≡ 0 * down d → cond (eqb b 0) (inf false) (round binary32 false (1 * 1 * down d) (b * up d * 1)) ≡ inf false
    go zero h = refl
    go (suc b) h = absurd (some (suc b * up d * parts) (mul-pos (mul-pos (native.Mathlib.Nat.zero-lt-suc b) (up_pos d)) parts_pos) (h ∙ zero-mul (down d)))
