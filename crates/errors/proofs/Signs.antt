-- What isn't negative: sums, products, a difference of what is in order. Assumes nothing.
--     round_plus, round_none   what is rounded keeps its sign, and 0 stays 0
--     add_plus, mul_plus       sums and products; a NaN counts as not negative
--     sub_plus                 x less y, for a y that isn't above x
--     add_low                  a sum of what is -1 at least and what isn't negative
use mathlib.Core.Path.{◌≡◌, refl, sym, ap, ◌∙◌, subst}
use mathlib.Core.Bool.{Bool, true, false, not, cond, ◌&&◌, true≢false}
use mathlib.Core.Logic.{◌⊎◌, inl, inr}
use Prim.Native.Nat.{ℕ, ◌+◌, ◌-◌, ◌*◌, ◌≤◌, ◌<◌}
use native.Mathlib.Nat.{zero-mul, mul-pos, mul_assoc, mul_comm, le_trans, le_of_eq, mul-le-mul_right}
use native.Mathlib.Omega.{arith}
use lib.Dec.{T, ltb, eqb, lit<, lit≤}
use lib.Ieee.{Float, nan, inf, fin, binary32, up, down, unlike, below, round, sum, add, sub, mul, lt}
use lib.Ieee.Fits.{down_pos}
use lib.Ieee.Scale.{round_same, finite}
use borrow.Author.Tests.{le-ltb, ltb-false, eq-eqb}
use Rattle.float32.specs.Meaning.{whole, sign_of, signed}
use Rattle.exact.specs.Whole.{Small}
use Rattle.exact.proofs.Exact.{round_signed}
use Rattle.exact.proofs.Bounds.{small_round}
use Rattle.errors.specs.Sizes.{Zero, Plus}

-- ---- rounding
pub sign_of_lem : (s : Bool) (y : Float) → (y ≡ nan → ⊥) → sign_of (signed s y) ≡ s
unfolding sign_of signed
sign_of_lem s nan n = absurd (n refl)
sign_of_lem s (inf t) n = refl
sign_of_lem s (fin t m e) n = refl

pub round_plus : (a c : ℕ) → sign_of (round binary32 false a c) ≡ false
round_plus a c = ap sign_of (round_signed false a c) ∙ plus (round binary32 false a c)
  where
    plus : (y : Float) → sign_of (signed false y) ≡ false
    plus nan = unfold sign_of signed in refl
    plus (inf t) = unfold sign_of signed in refl
    plus (fin t m e) = unfold sign_of signed in refl

none_whole : (s : Bool) → Zero (whole s 0)
unfolding round
none_whole true = refl
none_whole false = refl

pub round_none : (s : Bool) (a c : ℕ) → 0 < c → a ≡ 0 → Zero (round binary32 s a c)
round_none s a c C e = rw (e, round_same binary32 s 0 c 0 1 C (lit< tt) (omega arith)) (none_whole s)

-- ---- sums: ±a and ±b, not negative
abbrev Not : Bool → ℕ → Type 0
Not s a = (s ≡ false) ⊎ (a ≡ 0)

-- of a number with the sign minus
minus_none : (a : ℕ) → Not true a → a ≡ 0
minus_none a (inl h) = absurd (true≢false h)
minus_none a (inr h) = h

no_minus : {A : Type 0} → Plus (inf true) → A
unfolding sign_of
no_minus (inl h) = absurd (true≢false h)
no_minus (inr h) = absurd h

sum_plus : (s t : Bool) (a b c : ℕ) → 0 < c → Not s a → Not t b → Plus (sum binary32 s a t b c)
unfolding sum
sum_plus false false a b c C h k = inl (round_plus (a + b) c)
sum_plus true true a b c C h k = inr (round_none true (a + b) c C (omega (arith, minus_none a h, minus_none b k)))
sum_plus false true a b c C h k = rw (le-ltb a b (over a b (minus_none b k))) (inl (round_plus (a - b) c))
  where
    over : (a b : ℕ) → b ≡ 0 → b ≤ a
    over a b e = omega arith
sum_plus true false a b c C h k = go (ltb a b)
  where
    over : (a b : ℕ) → a ≡ 0 → a ≤ b
    over a b e = omega arith

    go : (t : Bool) → Plus (cond t (round binary32 false (b - a) c) (round binary32 (true && ltb b a) (a - b) c))
    go true = inl (round_plus (b - a) c)
    go false = rw (le-ltb b a (over a b (minus_none a h))) (inl (round_plus (a - b) c))

scaled_not : (s : Bool) (m : ℕ) (u d : ℕ) → Not s m → Not s (m * u * d)
scaled_not s m u d (inl h) = inl h
scaled_not s m u d (inr h) = inr (ap (λ (z : ℕ). z * u * d) h ∙ ap (λ (z : ℕ). z * d) (zero-mul u) ∙ zero-mul d)

pub add_plus : (x y : Float) → Plus x → Plus y → Plus (add binary32 x y)
unfolding add sign_of
add_plus nan y h k = inl refl
add_plus (inf true) y h k = no_minus h
add_plus (inf false) nan h k = inl refl
add_plus (inf false) (inf true) h k = no_minus k
add_plus (inf false) (inf false) h k = inl refl
add_plus (inf false) (fin t n d) h k = inl refl
add_plus (fin s m e) nan h k = inl refl
add_plus (fin s m e) (inf true) h k = no_minus k
add_plus (fin s m e) (inf false) h k = inl refl
add_plus (fin s m e) (fin t n d) h k =
    sum_plus s t (m * up e * down d) (n * up d * down e) (down e * down d) (mul-pos (down_pos e) (down_pos d)) (scaled_not s m (up e) (down d) h) (scaled_not t n (up d) (down e) k)

-- ---- products
none_left : (m u n v : ℕ) → m ≡ 0 → m * u * (n * v) ≡ 0
none_left m u n v h = ap (λ (z : ℕ). z * u * (n * v)) h ∙ ap (λ (z : ℕ). z * (n * v)) (zero-mul u) ∙ zero-mul (n * v)

none_right : (m u n v : ℕ) → n ≡ 0 → m * u * (n * v) ≡ 0
none_right m u n v h = mul_comm (m * u) (n * v) ∙ none_left n v m u h

prod_plus : (s t : Bool) (m u n v c : ℕ) → 0 < c → Not s m → Not t n → Plus (round binary32 (unlike s t) (m * u * (n * v)) c)
prod_plus true t m u n v c C h k = inr (round_none (unlike true t) (m * u * (n * v)) c C (none_left m u n v (minus_none m h)))
prod_plus false true m u n v c C h k = inr (round_none true (m * u * (n * v)) c C (none_right m u n v (minus_none n k)))
prod_plus false false m u n v c C h k = inl (round_plus (m * u * (n * v)) c)

inf_times : (t : Bool) (n : ℕ) → Not t n → Plus (cond (eqb n 0) nan (inf t))
unfolding sign_of
inf_times true n h = rw (eq-eqb n 0 (minus_none n h)) (inl refl)
inf_times false n h = go (eqb n 0)
  where
    go : (b : Bool) → Plus (cond b nan (inf false))
    go true = inl refl
    go false = inl refl

unlike_plus : (t : Bool) → unlike false t ≡ t
unlike_plus true = refl
unlike_plus false = refl

plus_unlike : (t : Bool) → unlike t false ≡ t
plus_unlike true = refl
plus_unlike false = refl

pub mul_plus : (x y : Float) → Plus x → Plus y → Plus (mul binary32 x y)
unfolding mul sign_of
mul_plus nan y h k = inl refl
mul_plus (inf true) y h k = no_minus h
mul_plus (inf false) nan h k = inl refl
mul_plus (inf false) (inf true) h k = no_minus k
mul_plus (inf false) (inf false) h k = inl refl
mul_plus (inf false) (fin t n d) h k = subst (λ (b : Bool). Plus (cond (eqb n 0) nan (inf b))) (sym (unlike_plus t)) (inf_times t n k)
mul_plus (fin s m e) nan h k = inl refl
mul_plus (fin s m e) (inf true) h k = no_minus k
mul_plus (fin s m e) (inf false) h k = subst (λ (b : Bool). Plus (cond (eqb m 0) nan (inf b))) (sym (plus_unlike s)) (inf_times s m h)
mul_plus (fin s m e) (fin t n d) h k = prod_plus s t m (up e) n (up d) (down e * down d) (mul-pos (down_pos e) (down_pos d)) h k

-- ---- x less y, for a y that isn't above x
less_plus : (s t : Bool) (a b c : ℕ) → 0 < c → below s a t b ≡ false → Plus (sum binary32 s a (not t) b c)
unfolding sum
less_plus false false a b c C h = rw h (inl (round_plus (a - b) c))
less_plus false true a b c C h = inl (round_plus (a + b) c)
less_plus true false a b c C h = inr (round_none true (a + b) c C (none a b (ltb-false 0 (a + b) h)))
  where
    none : (a b : ℕ) → a + b ≤ 0 → a + b ≡ 0
    none a b l = omega arith
less_plus true true a b c C h = go (ltb a b)
  where
    go : (t : Bool) → Plus (cond t (round binary32 false (b - a) c) (round binary32 (true && ltb b a) (a - b) c))
    go true = inl (round_plus (b - a) c)
    go false = rw h (inl (round_plus (a - b) c))

pub sub_plus : (x y : Float) → T (finite x) → T (finite y) → lt x y ≡ false → Plus (sub binary32 x y)
unfolding lt sub
sub_plus nan y f g h = absurd f
sub_plus (inf s) y f g h = absurd f
sub_plus (fin s m e) nan f g h = absurd g
sub_plus (fin s m e) (inf t) f g h = absurd g
sub_plus (fin s m e) (fin t n d) f g h = less_plus s t (m * up e * down d) (n * up d * down e) (down e * down d) (mul-pos (down_pos e) (down_pos d)) h

-- ---- what is 1 at most in size, and what isn't negative: their sum isn't negative, or 1 at most in size
sum_low : (s t : Bool) (a b c : ℕ) → 0 < c → a ≤ c → Not t b → Plus (sum binary32 s a t b c) ⊎ Small (sum binary32 s a t b c) 1
unfolding sum
sum_low false t a b c C l k = inl (sum_plus false t a b c C (inl refl) k)
sum_low true true a b c C l k = inr (small_round true (a + b) c 1 C (lit≤ tt) (omega (arith, minus_none b k)))
sum_low true false a b c C l k = go (ltb a b)
  where
    go : (t : Bool)
        → Plus (cond t (round binary32 false (b - a) c) (round binary32 (true && ltb b a) (a - b) c)) ⊎ Small (cond t (round binary32 false (b - a) c) (round binary32 (true && ltb b a) (a - b) c)) 1
    go true = inl (inl (round_plus (b - a) c))
    go false = inr (small_round (ltb b a) (a - b) c 1 C (lit≤ tt) (omega arith))

pub add_low : (x y : Float) → Small x 1 → T (finite y) → Plus y → Plus (add binary32 x y) ⊎ Small (add binary32 x y) 1
unfolding add sign_of
add_low nan y h f k = absurd h
add_low (inf s) y h f k = absurd h
add_low (fin s m e) nan h f k = absurd f
add_low (fin s m e) (inf t) h f k = absurd f
add_low (fin s m e) (fin t n d) h f k =
    let l : m * up e * down d ≤ down e * down d = le_trans (mul-le-mul_right (down d) h) (le_of_eq (ap (λ (z : ℕ). z * down d) (native.Mathlib.Nat.one-mul (down e)))) in
    sum_low s t (m * up e * down d) (n * up d * down e) (down e * down d) (mul-pos (down_pos e) (down_pos d)) l (scaled_not t n (up d) (down e) k)
