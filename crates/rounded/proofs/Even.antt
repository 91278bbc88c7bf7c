-- The even-odd coverage of a finite area lies in 0..1: what `round` takes away is the nearest even number, and what is left is at most 1. Assumes nothing.
use mathlib.Core.Path.{◌≡◌, refl, sym, ap, subst, ◌∙◌}
use mathlib.Core.Bool.{Bool, true, false, not, cond, ◌&&◌, ◌||◌}
use mathlib.Core.Logic.{⊎_elim}
use Prim.Native.Nat.{ℕ, zero, suc, ◌+◌, ◌-◌, ◌*◌, ◌%◌, ◌^◌, ◌<◌, ◌≤◌, zero-le}
use native.Mathlib.Nat.{
  zero-mul,
  add-mul,
  eq_of_mul-eq-mul_right,
  le-mul_of_pos_right,
  div-eq_of_lt,
  div-add-mod,
  mod-lt,
  div-eq_of_lt-le,
  lt_of_lt_of_le,
  mul_comm,
  mul_assoc,
  mul_right_comm,
  mul_left_comm,
  mul-one,
  one-mul,
  le_trans,
  le_of_eq,
  mul-le-mul_right,
  le_of_mul-le-mul_right,
  mul-pos,
}
use native.Mathlib.Omega.{arith}
use native.Mathlib.Numerals.{add-one}
use lib.Dec.{T, ltb, eqb, leb→le, lit<, lit≤}
use lib.Pow.{pow-add, pow_mono, shl_lt}
use lib.IntN.{ℤ, pos, negsuc}
use lib.Ieee.{mul, fits, Float, nan, inf, fin, binary32, round, add, sub, neg, sum, le, up, down}
use lib.Ieee.Back.{round_whole}
use lib.Ieee.Exact.{HasValue, round_exact}
use lib.Ieee.Fits.{down_pos}
use lib.Ieee.Nearest.{div_same}
use lib.Ieee.Order.{round_mono}
use lib.Ieee.Scale.{finite}
use Rattle.float32.specs.Meaning.{unit, abs_of, round_of, near_div, signed}
use Rattle.float32.proofs.Floors.{few_digits, not_high}
use Rattle.float32.proofs.Laws.{zero_plus}
use Rattle.float32.proofs.Order.{at_most}
use Rattle.float32.proofs.Tests.{below_or_not}
use Rattle.exact.proofs.Exact.{round_signed}
use Rattle.rounded.proofs.Shapes.{round_abs, shape}

abbrev pub InUnit : Float → Type 0
InUnit x = T (le zero_plus x) × T (le x (unit false))

one_rounds : round binary32 false 1 1 ≡ unit false
unfolding round
one_rounds = refl

zero_rounds : round binary32 false 0 1 ≡ zero_plus
unfolding round
zero_rounds = refl

-- a fraction of at most 1 rounds to a value in 0..1, of either sign
pub unit_rounds : (s : Bool) (k c : ℕ) → 0 < c → k ≤ c → InUnit (abs_of (round binary32 s k c))
unit_rounds s k c p h =
    subst InUnit (sym (round_abs s k c)) (
      subst (λ (z : Float). T (le z (round binary32 false k c))) zero_rounds (round_mono binary32 0 1 k c (omega arith) p (omega (arith, mul-one k))),
      subst (λ (z : Float). T (le (round binary32 false k c) z)) one_rounds (round_mono binary32 k c 1 1 p (omega arith) (omega (arith, mul-one k, one-mul c))),
    )

-- x and y are a / c and b / c
scaled : (x de dd a c : ℕ) → x * c ≡ a * de → x * dd * c ≡ a * (de * dd)
scaled x de dd a c p = mul_right_comm x dd c ∙ ap (λ (z : ℕ). z * dd) p ∙ mul_assoc a de dd

scaled' : (x de dd a c : ℕ) → x * c ≡ a * dd → x * de * c ≡ a * (de * dd)
scaled' x de dd a c p = mul_right_comm x de c ∙ ap (λ (z : ℕ). z * de) p ∙ mul_assoc a dd de ∙ ap (λ (z : ℕ). a * z) (mul_comm dd de)

apart : (A B C a b c : ℕ) → 0 < c → A * c ≡ a * C → B * c ≡ b * C → a ≤ b + c → A ≤ B + C
apart A B C a b c p q r h =
    le_of_mul-le-mul_right
    (le_trans (le_of_eq q) (le_trans (mul-le-mul_right C h) (le_of_eq (add-mul b c C ∙ ap (λ (z : ℕ). z + c * C) (sym r) ∙ ap (λ (z : ℕ). B * c + z) (mul_comm c C) ∙ sym (add-mul B C c)))))
    p

sub_same : (z : Bool) (m : ℕ) (e : ℤ) (n : ℕ) (d : ℤ) → sub binary32 (fin z m e) (fin z n d)
    ≡ cond (ltb (m * up e * down d) (n * up d * down e)) (round binary32 (not z) (n * up d * down e - m * up e * down d) (down e * down d))
    (round binary32 (z && ltb (n * up d * down e) (m * up e * down d)) (m * up e * down d - n * up d * down e) (down e * down d))
unfolding sub add neg sum
sub_same true m e n d = refl
sub_same false m e n d = refl

-- two floats of one sign that are at most 1 apart: the size of their difference lies in 0..1
pub close : (x y : Float) (s : Bool) (a b c : ℕ) → 0 < c → HasValue x s a c → HasValue y s b c → a ≤ b + c → b ≤ a + c → InUnit (abs_of (sub binary32 x y))
close nan y s a b c p v w g h = absurd v
close (inf t) y s a b c p v w g h = absurd v
close (fin t m e) nan s a b c p v w g h = absurd w
close (fin t m e) (inf u) s a b c p v w g h = absurd w
close (fin t m e) (fin u n d) s a b c p v w g h =
    subst (λ (z : Bool). InUnit (abs_of (sub binary32 (fin t m e) (fin z n d)))) (v.0 ∙ sym w.0) (same t)
  where
    A : ℕ
    A = m * up e * down d

    B : ℕ
    B = n * up d * down e

    C : ℕ
    C = down e * down d

    below : A ≤ B + C
    below = apart A B C a b c p (scaled (m * up e) (down e) (down d) a c v.1) (scaled' (n * up d) (down e) (down d) b c w.1) g

    above : B ≤ A + C
    above = apart B A C b a c p (scaled' (n * up d) (down e) (down d) b c w.1) (scaled (m * up e) (down e) (down d) a c v.1) h

    pick : (s₁ s₂ : Bool) → InUnit (abs_of (cond (ltb A B) (round binary32 s₁ (B - A) C) (round binary32 s₂ (A - B) C)))
    pick s₁ s₂ = go (ltb A B)
      where
        go : (q : Bool) → InUnit (abs_of (cond q (round binary32 s₁ (B - A) C) (round binary32 s₂ (A - B) C)))
        go true = unit_rounds s₁ (B - A) C (mul-pos (down_pos e) (down_pos d)) (omega (arith, above))
        go false = unit_rounds s₂ (A - B) C (mul-pos (down_pos e) (down_pos d)) (omega (arith, below))

    same : (z : Bool) → InUnit (abs_of (sub binary32 (fin z m e) (fin z n d)))
    same z = subst (λ (x : Float). InUnit (abs_of x)) (sym (sub_same z m e n d)) (pick (not z) (z && ltb B A))

abbrev pub half_f : Float
half_f = fin false 1 (negsuc 0)

abbrev pub two_f : Float
two_f = fin false 1 (pos 1)

-- where x is a / c in size, its rounding is the whole number floor((2 a + c) / (2 c)), rounded once
away_value : (x : Float) (s : Bool) (a c : ℕ) → 0 < c → HasValue x s a c → round_of x ≡ round binary32 s (near_div a c) 1
unfolding round_of
away_value nan s a c p v = absurd v
away_value (inf t) s a c p v = absurd v
away_value (fin t m e) s a c p v =
    ap (λ (z : Bool). round binary32 z (near_div (m * up e) (down e)) 1) v.0
    ∙ ap (λ (z : ℕ). round binary32 s z 1) (div_same (m * up e * 2 + down e) (down e * 2) (a * 2 + c) (c * 2) (omega (arith, down_pos e)) (omega arith) (cross (m * up e) (down e) a c v.1))
  where
    cross : (x de a c : ℕ) → x * c ≡ a * de → (x * 2 + de) * (c * 2) ≡ (a * 2 + c) * (de * 2)
    cross x de a c h =
        omega (
          arith,
          add-mul (x * 2) de (c * 2),
          mul_right_comm x 2 (c * 2),
          mul_assoc x c 2,
          ap (λ (z : ℕ). z * 2) (mul_assoc x c 2),
          mul_assoc de c 2,
          add-mul (a * 2) c (de * 2),
          mul_right_comm a 2 (de * 2),
          mul_assoc a de 2,
          ap (λ (z : ℕ). z * 2) (mul_assoc a de 2),
          mul_assoc c de 2,
          ap
              (λ (z : ℕ). z * 2) (mul_comm de c),
        )

-- the largest value below 1/2
abbrev top_f : Float
top_f = fin false 16777215 (negsuc 24)

top_rounds : round binary32 false 16777215 33554432 ≡ top_f
unfolding round
top_rounds = refl

zero_signed : (s : Bool) → round binary32 s 0 1 ≡ fin s 0 (pos 0)
unfolding round
zero_signed true = refl
zero_signed false = refl

from_le : (X Y : ℕ) → T (ltb X Y || (eqb X Y && true)) → X ≤ Y
from_le X Y h = leb→le X Y (subst T (at_most X Y) h)

-- below 1/2 the whole number is 0
abbrev LowAway : Bool → Float → Type 0
LowAway s z = T (le z top_f) → round_of (signed s z) ≡ fin s 0 (pos 0)

low_inf : (s : Bool) → LowAway s (inf false)
unfolding le signed
low_inf s h = absurd h

low_fin : (s : Bool) (m : ℕ) (e : ℤ) → LowAway s (fin false m e)
unfolding le round_of signed
low_fin s m e h =
    let g : m * up e * 33554432 ≤ 16777215 * down e = from_le (m * up e * 33554432) (16777215 * down e) h in
    ap (λ (z : ℕ). round binary32 s z 1) (div-eq_of_lt {n = m * up e * 2 + down e} {m = down e * 2} (omega (arith, down_pos e))) ∙ zero_signed s

low_away : (s : Bool) (a b : ℕ) → 0 < b → a * 33554432 ≤ 16777215 * b → round_of (round binary32 s a b) ≡ fin s 0 (pos 0)
low_away s a b p h =
    ap round_of (round_signed s a b)
    ∙ shape (LowAway s) (low_inf s) (low_fin s) binary32 a b
    (subst (λ (z : Float). T (le (round binary32 false a b) z)) top_rounds (round_mono binary32 a b 16777215 33554432 p (omega arith) h))

-- ---- the same value by another fraction
moved : (x : Float) (s : Bool) (a c a' c' : ℕ) → 0 < c → a' * c ≡ a * c' → HasValue x s a c → HasValue x s a' c'
moved nan s a c a' c' p h v = v
moved (inf t) s a c a' c' p h v = v
moved (fin t m e) s a c a' c' p h v = (
  v.0,
  eq_of_mul-eq-mul_right c p (m * up e * c') (a' * down e)
      (mul_right_comm (m * up e) c' c ∙ ap (λ (x : ℕ). x * c') v.1 ∙ mul_right_comm a (down e) c' ∙ ap (λ (x : ℕ). x * down e) (sym h) ∙ mul_right_comm a' c (down e)),
)

half_is : (s : Bool) (m : ℕ) (e : ℤ) → mul binary32 half_f (fin s m e) ≡ round binary32 s (1 * (m * up e)) (2 * down e)
unfolding mul
half_is true m e = refl
half_is false m e = refl

two_is : (s : Bool) (m : ℕ) (e : ℤ) → mul binary32 two_f (fin s m e) ≡ round binary32 s (2 * (m * up e)) (1 * down e)
unfolding mul
two_is true m e = refl
two_is false m e = refl

-- twice a whole number that is q * 2 ^ j units after doubling
twice : (x : Float) (s : Bool) (R q j : ℕ) → q < 2 ^ 24 → q * 2 ^ j < 2 ^ 277 → 2 * R * 2 ^ 149 ≡ q * 2 ^ j → HasValue x s R 1 → HasValue (mul binary32 two_f x) s (2 * R) 1
twice nan s R q j a b h v = absurd v
twice (inf t) s R q j a b h v = absurd v
twice (fin t m e) s R q j a b h v =
    subst (λ (z : Float). HasValue z s (2 * R) 1) (sym (ap (λ (z : Bool). mul binary32 two_f (fin z m e)) v.0 ∙ two_is s m e))
    (moved (round binary32 s (2 * (m * up e)) (1 * down e)) s (2 * (m * up e)) (1 * down e) (2 * R) 1 (omega (arith, down_pos e)) (fraction (m * up e) (down e) R v.1)
    (round_exact binary32 s (2 * (m * up e)) (1 * down e) q j (omega (arith, down_pos e)) a b (scale (m * up e) (down e) (2 ^ 149) h v.1)))
  where
    fraction : (x d r : ℕ) → x * 1 ≡ r * d → 2 * r * (1 * d) ≡ 2 * x * 1
    fraction x d r g = omega (arith, one-mul d, mul_assoc 2 r d, ap (λ (z : ℕ). 2 * r * z) (one-mul d))

    scale : (x d l : ℕ) → 2 * R * l ≡ q * 2 ^ j → x * 1 ≡ R * d → 2 * x * l ≡ q * 2 ^ j * (1 * d)
    scale x d l k g =
        let y : x ≡ R * d = sym (mul-one x) ∙ g in
        ap (λ (z : ℕ). 2 * z * l) y ∙ ap (λ (z : ℕ). z * l) (sym (mul_assoc 2 R d)) ∙ mul_right_comm (2 * R) d l ∙ ap (λ (z : ℕ). z * d) k ∙ ap (λ (z : ℕ). q * 2 ^ j * z) (sym (one-mul d))

-- the even-odd coverage of the area x
abbrev pub even_odd : Float → Float
even_odd x = abs_of (sub binary32 x (mul binary32 two_f (round_of (mul binary32 half_f x))))

-- ---- a magnitude below 1: the multiple of 2 taken away is 0
under_one : (n d : ℕ) → n < d → n < 16777216 → n * 33554432 ≤ 16777215 * (2 * d)
under_one n d h k = ⊎_elim (λ (p : d < 16777216). omega arith) (λ (p : 16777216 ≤ d). omega arith) (below_or_not d 16777216)

low_case : (s : Bool) (m : ℕ) (e : ℤ) → m * up e < down e → m * up e < 16777216 → InUnit (even_odd (fin s m e))
low_case s m e h k =
    let N = m * up e in
    let D = down e in
    let z : round_of (mul binary32 half_f (fin s m e)) ≡ fin s 0 (pos 0) =
    ap round_of (half_is s m e ∙ ap (λ (x : ℕ). round binary32 s x (2 * D)) (one-mul N)) ∙ low_away s N (2 * D) (omega arith) (under_one N D h k) in
    let y : mul binary32 two_f (round_of (mul binary32 half_f (fin s m e))) ≡ fin s 0 (pos 0) = ap (mul binary32 two_f) z ∙ two_is s 0 (pos 0) ∙ zero_signed s in
    subst (λ (x : Float). InUnit (abs_of (sub binary32 (fin s m e) x))) (sym y) (close (fin s m e) (fin s 0 (pos 0)) s N 0 D (down_pos e) (refl, refl) (refl, zero-mul D) (omega arith) (omega arith))

-- ---- what is left, from a half that is exact
rest : (s : Bool) (m : ℕ) (e : ℤ) (h y : Float) (R : ℕ) → mul binary32 half_f (fin s m e) ≡ h → mul binary32 two_f (round_of h) ≡ y → HasValue y s (2 * R) 1
    → m * up e ≤ 2 * R * down e + down e → 2 * R * down e ≤ m * up e + down e → InUnit (even_odd (fin s m e))
rest s m e h y R p q v a b =
    subst (λ (x : Float). InUnit (abs_of (sub binary32 (fin s m e) x))) (sym (ap (λ (x : Float). mul binary32 two_f (round_of x)) p ∙ q))
    (close (fin s m e) y s (m * up e) (2 * R * down e) (down e) (down_pos e) (refl, refl) (moved y s (2 * R) 1 (2 * R * down e) (down e) (omega arith) (mul-one (2 * R * down e)) v) a b)

exact_half : (t D : ℕ) → D ≡ 2 ^ t → t ≤ 148 → 2 ^ (148 - t) * (2 * D) ≡ 2 ^ 149
exact_half t D p h =
    let j : 148 - t + t ≡ 148 = omega arith in
    let a : 2 ^ (148 - t) * 2 ^ t ≡ 2 ^ 148 = sym (pow-add 2 (148 - t) t) ∙ ap (λ (z : ℕ). 2 ^ z) j in
    ap (λ (z : ℕ). 2 ^ (148 - t) * (2 * z)) p ∙ mul_left_comm (2 ^ (148 - t)) 2 (2 ^ t) ∙ ap (λ (z : ℕ). 2 * z) a

small_case : (s : Bool) (m : ℕ) (e : ℤ) (t : ℕ) → down e ≡ 2 ^ t → t ≤ 148 → down e ≤ m * up e → m * up e < 16777216 → InUnit (even_odd (fin s m e))
small_case s m e t p u a b =
    let N = m * up e in
    let D = down e in
    let Q = 2 * D * 2 in
    let R = near_div N (2 * D) in
    let dp : 0 < D = down_pos e in
    let big : N * 2 ^ (148 - t) < 2 ^ 277 = lt_of_lt_of_le (shl_lt 24 (148 - t) b) (pow_mono {i = 24 + (148 - t)} {j = 277} (omega arith)) in
    let h = round binary32 s N (2 * D) in
    let vh : HasValue h s N (2 * D) =
    round_exact binary32 s N (2 * D) N (148 - t) (omega arith) b big (sym (mul_assoc N (2 ^ (148 - t)) (2 * D) ∙ ap (λ (z : ℕ). N * z) (exact_half t D p u))) in
    let d1 : Q * R + (N * 2 + 2 * D) % Q ≡ N * 2 + 2 * D = div-add-mod (N * 2 + 2 * D) Q in
    let d2 : (N * 2 + 2 * D) % Q < Q = mod-lt (N * 2 + 2 * D) (omega arith) in
    let d3 : Q * R ≡ 2 * (2 * (R * D)) = ap (λ (z : ℕ). z * R) (mul_comm (2 * D) 2) ∙ mul_assoc 2 (2 * D) R ∙ ap (λ (z : ℕ). 2 * z) (mul_assoc 2 D R ∙ ap (λ (z : ℕ). 2 * z) (mul_comm D R)) in
    let d4 : 2 * R * D ≡ 2 * (R * D) = mul_assoc 2 R D in
    let d5 : R ≤ R * D = le-mul_of_pos_right R dp in
    let r_small : R < 16777216 = omega arith in
    let vy : HasValue (mul binary32 two_f (round binary32 s R 1)) s (2 * R) 1 =
    twice (round binary32 s R 1) s R R 150 r_small (lt_of_lt_of_le (shl_lt 24 150 r_small) (lit≤ tt))
    (ap (λ (z : ℕ). z * 2 ^ 149) (mul_comm 2 R) ∙ mul_assoc R 2 (2 ^ 149)) (round_whole binary32 s R (omega arith)) in
    rest s m e h (mul binary32 two_f (round binary32 s R 1)) R (half_is s m e ∙ ap (λ (x : ℕ). round binary32 s x (2 * D)) (one-mul N))
    (ap (mul binary32 two_f) (away_value h s N (2 * D) (omega arith) vh)) vy (omega arith) (omega arith)

-- `omega` stops at numbers of more than 38 digits, so these are stated by themselves
halve : (M B : ℕ) → 2 * M < 2 * B → M < B
halve M B h = omega arith

quarter_lo : (M N : ℕ) → N ≡ 2 * M → M * 4 ≤ N * 2 + 2
quarter_lo M N e = omega arith

quarter_hi : (M N : ℕ) → N ≡ 2 * M → N * 2 + 2 < (M + 1) * 4
quarter_hi M N e = omega arith

near_lo : (M N : ℕ) → N ≡ 2 * M → N ≤ 2 * M * 1 + 1
near_lo M N e = omega (arith, mul-one (2 * M))

near_hi : (M N : ℕ) → N ≡ 2 * M → 2 * M * 1 ≤ N + 1
near_hi M N e = omega (arith, mul-one (2 * M))

-- ---- from 2 ^ 24 on the area is an even whole number, m * 2 ^ (k + 1)
large_case : (s : Bool) (m k : ℕ) → m < 16777216 → m * 2 ^ suc k < 2 ^ 128 → InUnit (even_odd (fin s m (pos (suc k))))
large_case s m k a b =
    let M = m * 2 ^ k in
    let N = m * 2 ^ suc k in
    let twice_m : N ≡ 2 * M = ap (λ (z : ℕ). m * z) (ap (λ (z : ℕ). 2 ^ z) (sym (add-one k)) ∙ pow-add 2 k 1) ∙ sym (mul_assoc m (2 ^ k) 2) ∙ mul_comm M 2 in
    let small : M < 2 ^ 127 = halve M (2 ^ 127) (subst (λ (z : ℕ). z < 2 ^ 128) twice_m b) in
    let e149 : m * 2 ^ (k + 149) ≡ M * 2 ^ 149 = ap (λ (z : ℕ). m * z) (pow-add 2 k 149) ∙ sym (mul_assoc m (2 ^ k) (2 ^ 149)) in
    let e150 : m * 2 ^ (k + 150) ≡ M * 2 ^ 150 = ap (λ (z : ℕ). m * z) (pow-add 2 k 150) ∙ sym (mul_assoc m (2 ^ k) (2 ^ 150)) in
    let b149 : m * 2 ^ (k + 149) < 2 ^ 277 = subst (λ (z : ℕ). z < 2 ^ 277) (sym e149) (lt_of_lt_of_le (shl_lt 127 149 small) (lit≤ tt)) in
    let b150 : m * 2 ^ (k + 150) < 2 ^ 277 = subst (λ (z : ℕ). z < 2 ^ 277) (sym e150) (shl_lt 127 150 small) in
    let h = round binary32 s N 2 in
    let vh : HasValue h s N 2 = round_exact binary32 s N 2 m (k + 149) (lit< tt) a b149
    (ap (λ (z : ℕ). z * 2 ^ 149) twice_m ∙ mul_assoc 2 M (2 ^ 149) ∙ ap (λ (z : ℕ). 2 * z) (sym e149) ∙ mul_comm 2 (m * 2 ^ (k + 149))) in
    let R = near_div N 2 in
    let whole : R ≡ M = div-eq_of_lt-le {k = M} 4 {m = N * 2 + 2} (quarter_lo M N twice_m) (quarter_hi M N twice_m) in
    let vr : HasValue (round binary32 s M 1) s M 1 = round_exact binary32 s M 1 m (k + 149) (lit< tt) a b149 (sym e149 ∙ sym (mul-one (m * 2 ^ (k + 149)))) in
    let vy : HasValue (mul binary32 two_f (round binary32 s M 1)) s (2 * M) 1 =
    twice (round binary32 s M 1) s M m (k + 150) a b150 (ap (λ (z : ℕ). z * 2 ^ 149) (mul_comm 2 M) ∙ mul_assoc M 2 (2 ^ 149) ∙ sym e150) vr in
    rest s m (pos (suc k)) h (mul binary32 two_f (round binary32 s M 1)) M
    (half_is s m (pos (suc k)) ∙ ap (λ (x : ℕ). round binary32 s x 2) (one-mul N))
    (ap (mul binary32 two_f) (away_value h s N 2 (lit< tt) vh ∙ ap (λ (z : ℕ). round binary32 s z 1) whole)) vy (near_lo M N twice_m) (near_hi M N twice_m)

by_size : (s : Bool) (m : ℕ) (e : ℤ) → m < 16777216 → m * up e < 2 ^ 128 * down e → InUnit (even_odd (fin s m e))
by_size s m (pos zero) a b =
    let n : m * 1 ≡ m = mul-one m in
    ⊎_elim (λ (q : m * 1 < 1). low_case s m (pos zero) q (omega arith)) (λ (p : 1 ≤ m * 1). small_case s m (pos zero) 0 refl zero-le p (omega arith)) (below_or_not (m * 1) 1)
by_size s m (pos (suc k)) a b = large_case s m k a b
by_size s m (negsuc k) a b =
    let n : m * 1 ≡ m = mul-one m in
    ⊎_elim
    (λ (q : m * 1 < 2 ^ suc k). low_case s m (negsuc k) q (omega arith))
    (λ (p : 2 ^ suc k ≤ m * 1).
    ⊎_elim (λ (q : suc k < 149). small_case s m (negsuc k) (suc k) refl (omega arith) p (omega arith))
    (λ (q : 149 ≤ suc k). let g : 2 ^ 24 ≤ 2 ^ suc k = pow_mono {i = 24} {j = suc k} (omega arith) in absurd (clash (2 ^ suc k) m g (omega arith) a)) (below_or_not (suc k) 149))
    (below_or_not (m * 1) (2 ^ suc k))
  where
    clash : (x m : ℕ) → 16777216 ≤ x → x ≤ m → m < 16777216 → ⊥
    clash x m p q r = omega arith

-- even-odd coverage of a finite area lies in 0..1
pub even_odd_in_unit : (x : Float) → T (fits binary32 x) → T (finite x) → InUnit (even_odd x)
even_odd_in_unit nan f t = absurd t
even_odd_in_unit (inf s) f t = absurd t
even_odd_in_unit (fin s m e) f t = by_size s m e (few_digits s m e f) (not_high s m e f)
