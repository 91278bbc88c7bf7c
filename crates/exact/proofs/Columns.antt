-- A line's first column by the edges of its span: where x rises it is the floor of the smaller end, and where x falls the ceiling of the larger, turned. Assumes nothing.
--     by_sign_floor    an `f32` times 1 or -1 loses nothing, so its floor is that of the `f32` with its sign or with the other
--     column_is        so of two ends
use mathlib.Core.Path.{◌≡◌, refl, sym, ap, ◌∙◌, subst}
use mathlib.Core.Bool.{Bool, true, false, not, cond, true≢false}
use mathlib.Core.Logic.{◌⊎◌, inl, inr}
use Prim.Native.Nat.{ℕ, suc, ◌+◌, ◌-◌, ◌*◌, ◌^◌, ◌≤◌, ◌<◌}
use native.Mathlib.Nat.{
  le_trans,
  le_of_eq,
  le_antisymm,
  lt_of_lt_of_le,
  lt_irrefl,
  mul-one,
  mul_assoc,
  mul_right_comm,
  mul-pos,
  mul-le-mul_right,
  mul-lt-mul_of_pos_right,
  le_of_mul-le-mul_right,
  div-add-mod',
  mod-lt,
}
use native.Mathlib.Omega.{arith}
use lib.Dec.{T, lit<}
use lib.Pow.{pow-add, pow_pos, pow-lt, pow_mono, shl_lt}
use lib.IntN.{ℤ, pos, negsuc}
use lib.Ieee.{Float, nan, inf, fin, binary32, up, down, unlike, round, mul, neg, le, lt, fits}
use lib.Ieee.Fits.{down_pos}
use lib.Ieee.Exact.{HasValue, round_exact}
use lib.Ieee.Nearest.{div_same}
use lib.Ieee.Scale.{round_same, finite}
use Rattle.float32.specs.Meaning.{whole, up_div, floor_of, ceil_of, unit}
use Rattle.float32.proofs.Tests.{below_or_not}
use Rattle.float32.proofs.Floors.{few_digits, not_low, not_high}
use Rattle.float32.proofs.Laws.{up_most}
use Rattle.float32.proofs.Order.{not_lt_of_le, le_of_not_lt}
use Rattle.float32.proofs.MinMax.{le_of_lt}
use Rattle.float32.proofs.Magic.{ceil_turned}
use Rattle.exact.specs.Reach.{Near, sign_at}
use Rattle.exact.proofs.Bounds.{sign_unit, near_finite, finite_number}

-- ---- equal fractions have one floor, and one ceiling
up_reaches : (A D : ℕ) → 0 < D → A ≤ up_div A D * D
up_reaches A D p = omega (arith, div-add-mod' (A + (D - 1)) D, mod-lt (A + (D - 1)) p)

-- A / D is at most the ceiling of an equal fraction a / c
up_under : (A D a c : ℕ) → 0 < D → 0 < c → A * c ≡ a * D → up_div A D ≤ up_div a c
up_under A D a c p q e =
    up_most A D (up_div a c) p
    (le_of_mul-le-mul_right (le_trans (le_of_eq e) (le_trans (mul-le-mul_right D (up_reaches a c q)) (le_of_eq (mul_right_comm (up_div a c) c D)))) q)

up_same_value : (A D a c : ℕ) → 0 < D → 0 < c → A * c ≡ a * D → up_div A D ≡ up_div a c
up_same_value A D a c p q e = le_antisymm (up_under A D a c p q e) (up_under a c A D q p (sym e))

floor_value : (x : Float) (s : Bool) (m : ℕ) (e : ℤ) → HasValue x s (m * up e) (down e) → floor_of x ≡ floor_of (fin s m e)
unfolding floor_of
floor_value nan s m e h = absurd h
floor_value (inf t) s m e h = absurd h
floor_value (fin false n d) false m e h = ap (whole false) (div_same (n * up d) (down d) (m * up e) (down e) (down_pos d) (down_pos e) h.1)
floor_value (fin true n d) true m e h = ap (whole true) (up_same_value (n * up d) (down d) (m * up e) (down e) (down_pos d) (down_pos e) h.1)
floor_value (fin false n d) true m e h = absurd (true≢false (sym h.0))
floor_value (fin true n d) false m e h = absurd (true≢false h.0)

-- ---- what is an `f32` is not rounded
pow_within : (k : ℕ) → 2 ^ k ≤ 2 ^ 149 → k ≤ 149
pow_within k h = go (below_or_not 149 k)
  where
    go : (149 < k) ⊎ (k ≤ 149) → k ≤ 149
    go (inl l) = absurd (lt_irrefl (2 ^ 149) (lt_of_lt_of_le (pow-lt l) h))
    go (inr l) = l

own_value : (s t : Bool) (m : ℕ) (e : ℤ) → T (fits binary32 (fin s m e)) → HasValue (round binary32 t (m * up e) (down e)) t (m * up e) (down e)
own_value s t m (pos k) h =
    let e : m * 2 ^ k * 2 ^ 149 ≡ m * 2 ^ (k + 149) = mul_assoc m (2 ^ k) (2 ^ 149) ∙ ap (λ (z : ℕ). m * z) (sym (pow-add 2 k 149)) in
    round_exact binary32 t (m * 2 ^ k) 1 m (k + 149) (lit< tt) (few_digits s m (pos k) h)
    (subst (λ (z : ℕ). z < 2 ^ 277) e (mul-lt-mul_of_pos_right (subst (λ (z : ℕ). m * 2 ^ k < z) (mul-one (2 ^ 128)) (not_high s m (pos k) h)) (pow_pos 149)))
    (e ∙ sym (mul-one (m * 2 ^ (k + 149))))
own_value s t m (negsuc k) h =
    let j = 149 - suc k in
    let p : j + suc k ≡ 149 = rest (suc k) (pow_within (suc k) (not_low s m (negsuc k) h)) in
    round_exact binary32 t (m * 1) (2 ^ suc k) m j (pow_pos (suc k)) (few_digits s m (negsuc k) h)
    (lt_of_lt_of_le (shl_lt 24 j (few_digits s m (negsuc k) h)) (pow_most (24 + j) (few (suc k))))
    (ap (λ (z : ℕ). z * 2 ^ 149) (mul-one m) ∙ ap (λ (z : ℕ). m * 2 ^ z) (sym p) ∙ ap (λ (z : ℕ). m * z) (pow-add 2 j (suc k)) ∙ sym (mul_assoc m (2 ^ j) (2 ^ suc k)))
  where
    rest : (a : ℕ) → a ≤ 149 → 149 - a + a ≡ 149
    rest a h = omega arith

    few : (a : ℕ) → 24 + (149 - a) ≤ 277
    few a = omega arith

    pow_most : (i : ℕ) → i ≤ 277 → 2 ^ i ≤ 2 ^ 277
    pow_most i h = pow_mono h

-- ---- times 1, and times -1
abbrev turn_of : Bool → Float → Float
turn_of false x = x
turn_of true x = neg x

by_sign_floor : (t : Bool) (x : Float) → T (fits binary32 x) → T (finite x) → floor_of (mul binary32 x (unit t)) ≡ floor_of (turn_of t x)
unfolding mul neg
by_sign_floor t nan f g = absurd g
by_sign_floor t (inf s) f g = absurd g
by_sign_floor t (fin s m e) f g =
    ap floor_of (round_same binary32 (unlike s t) (m * up e * 1) (down e * 1) (m * up e) (down e) (mul-pos (down_pos e) (lit< tt)) (down_pos e) (plain (m * up e) (down e)))
    ∙ floor_value (round binary32 (unlike s t) (m * up e) (down e)) (unlike s t) m e (own_value s (unlike s t) m e f)
    ∙ ap floor_of (signs s t)
  where
    plain : (a d : ℕ) → a * 1 * d ≡ a * (d * 1)
    plain a d = omega arith

    signs : (s t : Bool) → fin (unlike s t) m e ≡ turn_of t (fin s m e)
    signs false false = refl
    signs true false = refl
    signs false true = refl
    signs true true = refl

-- ---- the first column
neg_back : (x : Float) → neg (neg x) ≡ x
unfolding neg
neg_back nan = refl
neg_back (inf true) = refl
neg_back (inf false) = refl
neg_back (fin true m e) = refl
neg_back (fin false m e) = refl

ceil_is : (x : Float) → neg (ceil_of x) ≡ floor_of (neg x)
ceil_is x = ap neg (sym (ceil_turned x)) ∙ neg_back (floor_of (neg x))

by_sign : (rises : Bool) (a : Float) → Near a → floor_of (mul binary32 a (sign_at rises)) ≡ floor_of (turn_of (not rises) a)
by_sign rises a h = ap (λ (u : Float). floor_of (mul binary32 a u)) (sign_unit rises) ∙ by_sign_floor (not rises) a h.fit (near_finite a h)

-- where b < a, a <= b is false, and a < b too
turns : (a b : Float) → lt b a ≡ true → (le a b ≡ false) × (lt a b ≡ false)
turns a b h = (go (le a b) refl, not_lt_of_le b a (le_of_lt b a h))
  where
    go : (t : Bool) → le a b ≡ t → t ≡ false
    go true e = absurd (true≢false (sym h ∙ not_lt_of_le a b e))
    go false e = refl

pub column_is : (a b : Float) → Near a → Near b → cond (lt b a) (neg (ceil_of (cond (lt a b) b a))) (floor_of (cond (lt b a) b a)) ≡ floor_of (mul binary32 a (sign_at (le a b)))
column_is a b h k = go (lt b a) refl
  where
    go : (t : Bool) → lt b a ≡ t → cond t (neg (ceil_of (cond (lt a b) b a))) (floor_of (cond t b a)) ≡ floor_of (mul binary32 a (sign_at (le a b)))
    go true e =
        let p = turns a b e in
        ap (λ (t : Bool). neg (ceil_of (cond t b a))) p.1
        ∙ ceil_is a
        ∙ sym (ap (λ (t : Bool). floor_of (mul binary32 a (sign_at t))) p.0 ∙ by_sign false a h)
    go false e =
        let p : le a b ≡ true = le_of_not_lt a b (finite_number a (near_finite a h)) (finite_number b (near_finite b k)) e in
        sym (ap (λ (t : Bool). floor_of (mul binary32 a (sign_at t))) p ∙ by_sign true a h)
