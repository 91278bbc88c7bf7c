-- x + 3 * 2 ^ 22, rounded, of an x below 2 ^ 22 in size: a whole number from 2 ^ 23 to 2 ^ 24, whose bits say which, and x's floor is that or one less. Assumes nothing.
-- Of `fin s m e` the size is A / D, with A = m * up e and D = down e. W is 3 * 2 ^ 22, and S / D is what is rounded.
use mathlib.Core.Path.{◌≡◌, refl, sym, ap, ◌∙◌, subst}
use mathlib.Core.Bool.{Bool, true, false, not, false≢true}
use mathlib.Core.Logic.{◌⊎◌, inl, inr}
use Prim.Native.Nat.{ℕ, ◌+◌, ◌-◌, ◌*◌, ◌/◌, ◌%◌, ◌≤◌, ◌<◌}
use native.Mathlib.Nat.{mul-one, one-mul, add-mul, div-add-mod', mod-lt, div-mul-le_self, lt_of_mul-lt-mul_right}
use native.Mathlib.Omega.{arith}
use lib.Dec.{T, ltb, lit<, lit≤}
use lib.IntN.{ℤ, pos, neg_ℤ}
use lib.Ieee.{Float, nan, inf, fin, binary32, up, down, round, add, sum, lt, fits, is_nan, of_fields, of_bits, to_bits}
use lib.Ieee.Bits.{to_bits-of_bits}
use lib.Ieee.Exact.{HasValue}
use lib.Ieee.Fits.{down_pos, add-fits}
use lib.Ieee.Nearest.{closest}
use lib.Ieee.Back.{whole_unique}
use borrow.Author.Tests.{lt-ltb, le-ltb, lt-leb, ltb-true}
use Rattle.float32.specs.Inner.{limit}
use Rattle.float32.specs.Meaning.{whole, up_div}
use Rattle.float32.proofs.Tests.{below_or_not}
use Rattle.float32.proofs.Fields.{of_bits_is}
use Rattle.float32.proofs.Whole.{whole_fits, whole_value, units_whole, round_no_nan}
use Rattle.float32.proofs.Floors.{lt_plus, lt_minus, gt_minus}
use Rattle.float32.proofs.Magic.{magic, near, grid_value, closest_above, closest_below, taken_off, div_is}
use Rattle.exact.specs.Whole.{IsWhole, floor_z}
use Rattle.exact.proofs.Signs.{plus_of, minus_of, neg_plus, neg_minus}

-- ---- the bits of a whole number from 2 ^ 23 to 2 ^ 24
field_is : (k : ℕ) → k < 8388608 → (0x4b00_0000 + k) % 2147483648 / 8388608 ≡ 150
field_is k h = omega arith

digits_are : (k : ℕ) → k < 8388608 → (0x4b00_0000 + k) % 8388608 ≡ k
digits_are k h = omega arith

high : (k : ℕ) → k < 8388608 → 0x4b00_0000 + k < 2147483648
high k h = omega arith

pub from_bits : (k : ℕ) → k < 8388608 → of_bits binary32 (0x4b00_0000 + k) ≡ whole false (8388608 + k)
from_bits k h =
    of_bits_is (0x4b00_0000 + k)
    ∙ ap (λ (s : Bool). of_fields binary32 s ((0x4b00_0000 + k) % 2147483648 / 8388608) ((0x4b00_0000 + k) % 8388608)) (lt-leb 2147483648 (0x4b00_0000 + k) (high k h))
    ∙ ap (λ (x : ℕ). of_fields binary32 false x ((0x4b00_0000 + k) % 8388608)) (field_is k h)
    ∙ ap (λ (t : ℕ). of_fields binary32 false 150 t) (digits_are k h)
    ∙ fields k h
  where
    fields : (k : ℕ) → k < 8388608 → of_fields binary32 false 150 k ≡ whole false (8388608 + k)
    fields k h = unfold of_fields in units_whole false (8388608 + k) 149 (8388608 + k) (omega arith) (lit≤ tt) refl

last_bits : of_bits binary32 0x4b80_0000 ≡ whole false 16777216
unfolding of_bits round
last_bits = refl

bits_at : (b N : ℕ) → b < 4294967296 → of_bits binary32 b ≡ whole false N → to_bits binary32 (whole false N) ≡ b
bits_at b N h e =
    ap (to_bits binary32) (sym e) ∙ to_bits-of_bits binary32 b h (subst (λ (y : Float). T (not (is_nan y))) (sym e) (round_no_nan false N 1))

whole_bits : (N : ℕ) → 8388608 ≤ N → N ≤ 16777216 → to_bits binary32 (whole false N) ≡ 0x4b00_0000 + (N - 8388608)
whole_bits N l u = go (below_or_not N 16777216)
  where
    again : (N : ℕ) → 8388608 ≤ N → 8388608 + (N - 8388608) ≡ N
    again N l = omega arith

    less : (N : ℕ) → 8388608 ≤ N → N < 16777216 → N - 8388608 < 8388608
    less N l h = omega arith

    room : (N : ℕ) → N < 16777216 → 0x4b00_0000 + (N - 8388608) < 4294967296
    room N h = omega arith

    ends : (N : ℕ) → N ≤ 16777216 → 16777216 ≤ N → N ≡ 16777216
    ends N u h = omega arith

    go : (N < 16777216) ⊎ (16777216 ≤ N) → to_bits binary32 (whole false N) ≡ 0x4b00_0000 + (N - 8388608)
    go (inl h) = bits_at (0x4b00_0000 + (N - 8388608)) N (room N h) (from_bits (N - 8388608) (less N l h) ∙ ap (whole false) (again N l))
    go (inr h) = subst (λ (n : ℕ). to_bits binary32 (whole false n) ≡ 0x4b00_0000 + (n - 8388608)) (sym (ends N u h)) (bits_at 0x4b80_0000 16777216 (lit< tt) last_bits)

pub value_bits : (y : Float) (N : ℕ) → T (fits binary32 y) → HasValue y false N 1 → 8388608 ≤ N → N ≤ 16777216 → to_bits binary32 y ≡ 0x4b00_0000 + (N - 8388608)
value_bits y N f v l u = ap (to_bits binary32) (whole_unique binary32 y (whole false N) false N f (whole_fits false N) v (whole_value false N u)) ∙ whole_bits N l u

-- ---- what x + W is
pub record Shift (x : Float) : Type 0 where
  pub N : ℕ
  pub S : ℕ
  pub D : ℕ
  pub some : 0 < D
  pub real : T (not (is_nan (add binary32 x magic)))
  pub bits : to_bits binary32 (add binary32 x magic) ≡ 0x4b00_0000 + (N - 8388608)
  pub least : 8388608 ≤ N
  pub most : N ≤ 16777216
  pub above : S < N * D + D
  pub below : N * D < S + D
  pub under : lt x (near x) ≡ ltb S (N * D)
  pub floor : S / D + minus_of (floor_z x) ≡ 12582912 + plus_of (floor_z x)
  pub whole_is : (n : ℤ) → IsWhole x n → (v : ℕ) × (S ≡ v * D) × (v + minus_of n ≡ 12582912 + plus_of n)

-- N lies from 2 ^ 23 to 2 ^ 24, as S / D does
low_end : (N S D : ℕ) → 0 < D → 8388608 * D ≤ S → S < N * D + D → 8388608 ≤ N
low_end N S D p l a =
    let h : 8388608 < N + 1 = lt_of_mul-lt-mul_right D (omega (arith, add-mul N 1 D, one-mul D)) in
    omega arith

high_end : (N S D : ℕ) → 0 < D → S < 16777216 * D → N * D < S + D → N ≤ 16777216
high_end N S D p l b =
    let h : N < 16777217 = lt_of_mul-lt-mul_right D (omega arith) in
    omega arith

pub no_value_nan : (y : Float) (s : Bool) (N : ℕ) → HasValue y s N 1 → T (not (is_nan y))
unfolding is_nan
no_value_nan nan t N v = absurd v
no_value_nan (inf s) t N v = absurd v
no_value_nan (fin s m e) t N v = tt

added_plus : (m : ℕ) (e : ℤ) → add binary32 (fin false m e) magic ≡ round binary32 false (m * up e + 12582912 * down e) (down e)
unfolding add sum
added_plus m e =
    ap (λ (z : ℕ). round binary32 false (z + 12582912 * down e) (down e * 1)) (mul-one (m * up e))
    ∙ ap (λ (z : ℕ). round binary32 false (m * up e + 12582912 * down e) z) (mul-one (down e))

added_minus : (m : ℕ) (e : ℤ) → m * up e < 12582912 * down e → add binary32 (fin true m e) magic ≡ round binary32 false (12582912 * down e - m * up e) (down e)
unfolding add sum
added_minus m e l =
    rw (mul-one (m * up e), mul-one (down e), lt-ltb (m * up e) (12582912 * down e) l)
    refl

-- tests of two numbers that are the same test
pub same_test : (a b c d : ℕ) → (a < b → c < d) → (b ≤ a → d ≤ c) → ltb a b ≡ ltb c d
same_test a b c d h g = go (below_or_not a b)
  where
    go : (a < b) ⊎ (b ≤ a) → ltb a b ≡ ltb c d
    go (inl l) = lt-ltb a b l ∙ sym (lt-ltb c d (h l))
    go (inr l) = le-ltb a b l ∙ sym (le-ltb c d (g l))

-- ---- x from 0 up
module _ (m : ℕ) (e : ℤ) (l : m * up e < 4194304 * down e) where
  abbrev x : Float
  x = fin false m e

  abbrev S : ℕ
  S = m * up e + 12582912 * down e

  abbrev N : ℕ
  N = closest S (down e)

  value : HasValue (add binary32 x magic) false N 1
  value = subst (λ (y : Float). HasValue y false N 1) (sym (added_plus m e)) (grid_value S (down e) (down_pos e) (omega arith) (omega arith))

  low : 12582912 ≤ N
  low =
      let h : 12582912 < N + 1 = lt_of_mul-lt-mul_right (down e) (omega (arith, closest_above S (down e) (down_pos e), add-mul N 1 (down e), one-mul (down e))) in
      omega arith

  left : near x ≡ whole false (N - 12582912)
  left = taken_off 3 22 N (add binary32 x magic) value ∙ rw (le-ltb N 12582912 low) refl

  most : N ≤ 16777216
  most = high_end N S (down e) (down_pos e) (omega arith) (closest_below S (down e) (down_pos e))

  test : lt x (near x) ≡ ltb S (N * down e)
  test =
      let k = N - 12582912 in
      let v : HasValue (near x) false k 1 = subst (λ (y : Float). HasValue y false k 1) (sym left) (whole_value false k (omega (arith, most))) in
      let i : N ≡ 12582912 + k = omega (arith, low) in
      let j : N * down e ≡ 12582912 * down e + k * down e = ap (λ (z : ℕ). z * down e) i ∙ add-mul 12582912 k (down e) in
      lt_plus m e (near x) k v ∙ same_test (m * up e) (k * down e) S (N * down e) (λ h. omega (arith, j)) (λ h. omega (arith, j))

  pub shift_plus : Shift x
  unfolding floor_z
  shift_plus =
      let p = down_pos e in
      let a = closest_above S (down e) p in
      let b = closest_below S (down e) p in
      let lo : 8388608 ≤ N = omega (arith, low) in
      record {
        N = N;
        S = S;
        D = down e;
        some = p;
        real = no_value_nan (add binary32 x magic) false N value;
        bits = value_bits (add binary32 x magic) N (add-fits binary32 x magic) value lo most;
        least = lo;
        most = most;
        above = a;
        below = b;
        under = test;
        floor = omega (arith, floors (m * up e) (down e) p);
        whole_is = λ n w. (12582912 + w.0, omega (arith, w.1, add-mul 12582912 w.0 (down e)), omega (arith, ap plus_of w.2, ap minus_of w.2));
      }
    where
      floors : (A D : ℕ) → 0 < D → (A + 12582912 * D) / D ≡ 12582912 + A / D
      floors A D p =
          div_is (A + 12582912 * D) D (12582912 + A / D)
          (omega (arith, add-mul 12582912 (A / D) D, div-mul-le_self A D))
          (omega (arith, add-mul 12582912 (A / D) D, div-add-mod' A D, mod-lt A p))

-- ---- x below 0, or -0
pub up_reach : (A D : ℕ) → 0 < D → A ≤ up_div A D * D
up_reach A D p = go (up_div A D * D) ((A + (D - 1)) % D) (div-add-mod' (A + (D - 1)) D) (mod-lt (A + (D - 1)) p)
  where
    go : (x r : ℕ) → x + r ≡ A + (D - 1) → r < D → A ≤ x
    go x r e l = omega arith

module _ (m : ℕ) (e : ℤ) (l : m * up e < 4194304 * down e) where
  abbrev y : Float
  y = fin true m e

  abbrev U : ℕ
  U = 12582912 * down e - m * up e

  abbrev M : ℕ
  M = closest U (down e)

  worth : HasValue (add binary32 y magic) false M 1
  worth = subst (λ (z : Float). HasValue z false M 1) (sym (added_minus m e (omega arith))) (grid_value U (down e) (down_pos e) (omega arith) (omega arith))

  over : 8388608 ≤ M
  over = low_end M U (down e) (down_pos e) (omega arith) (closest_above U (down e) (down_pos e))

  not_over : M ≤ 12582912
  not_over =
      let h : M < 12582913 = lt_of_mul-lt-mul_right (down e) (omega (arith, closest_below U (down e) (down_pos e))) in
      omega arith

  lower : lt y (near y) ≡ ltb U (M * down e)
  lower = go (below_or_not M 12582912)
    where
      back : (M : ℕ) → M < 12582912 → M + (12582912 - M) ≡ 12582912
      back M h = omega arith

      ends : (M : ℕ) → M ≤ 12582912 → 12582912 ≤ M → M ≡ 12582912
      ends M u h = omega arith

      at_zero : lt (fin true m e) (whole false 0) ≡ ltb 0 (m * up e * 1 + 0 * 1 * down e)
      at_zero = unfold lt round in refl

      go : (M < 12582912) ⊎ (12582912 ≤ M) → lt y (near y) ≡ ltb U (M * down e)
      go (inl h) =
          let k = 12582912 - M in
          let r : near y ≡ whole true k = taken_off 3 22 M (add binary32 y magic) worth ∙ rw (lt-ltb M 12582912 h) refl in
          let v : HasValue (near y) true k 1 = subst (λ (z : Float). HasValue z true k 1) (sym r) (whole_value true k (omega arith)) in
          let j : M * down e + k * down e ≡ 12582912 * down e = sym (add-mul M k (down e)) ∙ ap (λ (z : ℕ). z * down e) (back M h) in
          lt_minus m e (near y) k v ∙ same_test (k * down e) (m * up e) U (M * down e) (λ h. omega (arith, j)) (λ h. omega (arith, j))
      go (inr h) =
          let i : M ≡ 12582912 = ends M not_over h in
          let r : near y ≡ whole false (M - 12582912) = taken_off 3 22 M (add binary32 y magic) worth ∙ rw (le-ltb M 12582912 h) refl in
          let q : near y ≡ whole false 0 = r ∙ ap (λ (z : ℕ). whole false (z - 12582912)) i in
          let j : M * down e ≡ 12582912 * down e = ap (λ (z : ℕ). z * down e) i in
          ap (lt y) q ∙ at_zero ∙ same_test 0 (m * up e * 1 + 0 * 1 * down e) U (M * down e) (λ h. omega (arith, j)) (λ h. omega (arith, j))

  pub shift_minus : Shift y
  unfolding floor_z
  shift_minus =
      let p = down_pos e in
      let u = up_div (m * up e) (down e) in
      record {
        N = M;
        S = U;
        D = down e;
        some = p;
        real = no_value_nan (add binary32 y magic) false M worth;
        bits = value_bits (add binary32 y magic) M (add-fits binary32 y magic) worth over (omega (arith, not_over));
        least = over;
        most = omega (arith, not_over);
        above = closest_above U (down e) p;
        below = closest_below U (down e) p;
        under = lower;
        floor = omega (arith, floors (m * up e) (down e) p l, neg_plus (pos u), neg_minus (pos u));
        whole_is = λ n w. wholes n w.0 w.1 w.2;
      }
    where
      floors : (A D : ℕ) → 0 < D → A < 4194304 * D → (12582912 * D - A) / D + up_div A D ≡ 12582912
      floors A D p l =
          let u = up_div A D in
          let a = up_reach A D p in
          let b = div-mul-le_self (A + (D - 1)) D in
          let h : u < 4194305 = lt_of_mul-lt-mul_right D (omega arith) in
          let q : 12582912 ≡ (12582912 - u) + u = omega arith in
          let j : 12582912 * D ≡ (12582912 - u) * D + u * D = ap (λ (z : ℕ). z * D) q ∙ add-mul (12582912 - u) u D in
          omega (arith, div_is (12582912 * D - A) D (12582912 - u) (omega arith) (omega arith))

      wholes : (n : ℤ) (k : ℕ) → m * up e ≡ k * down e → n ≡ neg_ℤ (pos k) → (v : ℕ) × (U ≡ v * down e) × (v + minus_of n ≡ 12582912 + plus_of n)
      wholes n k w i =
          let h : k < 4194304 = lt_of_mul-lt-mul_right (down e) (omega arith) in
          let q : 12582912 ≡ (12582912 - k) + k = omega arith in
          let j : 12582912 * down e ≡ (12582912 - k) * down e + k * down e = ap (λ (z : ℕ). z * down e) q ∙ add-mul (12582912 - k) k (down e) in
          (12582912 - k, omega arith, omega (arith, ap plus_of i, ap minus_of i, neg_plus (pos k), neg_minus (pos k)))

-- ---- both
pub shifted : (x : Float) → lt x (limit false) ≡ true → lt (limit true) x ≡ true → Shift x
unfolding lt
shifted nan l u = absurd (false≢true l)
shifted (inf true) l u = absurd (false≢true u)
shifted (inf false) l u = absurd (false≢true l)
shifted (fin false m e) l u = shift_plus m e (ltb-true (m * up e) (4194304 * down e) (sym (lt_plus m e (limit false) 4194304 (refl, refl)) ∙ l))
shifted (fin true m e) l u = shift_minus m e (ltb-true (m * up e) (4194304 * down e) (sym (gt_minus m e (limit true) 4194304 (refl, refl)) ∙ u))
