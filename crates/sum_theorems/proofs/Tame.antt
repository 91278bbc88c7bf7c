-- Numbers that are a NaN or bounded, through sums, products and quotients. Assumes nothing.
--     div_wild     a quotient by what isn't finite
--     div_under    a quotient of what isn't the larger
--     div_wide     a quotient by what isn't too small
--     mul_tame, add_tame, step_tame   products and sums
use mathlib.Core.Path.{◌≡◌, refl, sym, ap, ◌∙◌, subst}
use mathlib.Core.Bool.{Bool, true, false, cond, true≢false}
use mathlib.Core.Logic.{inl, inr}
use Prim.Native.Nat.{ℕ, suc, zero, ◌+◌, ◌*◌, ◌^◌, ◌≤◌, ◌<◌}
use native.Mathlib.Nat.{le_trans, le_of_eq, mul-pos, mul-one, zero-mul, mul-le-mul_right, mul-le-mul, mul-mul-mul_comm}
use native.Mathlib.Omega.{arith}
use lib.Dec.{eqb, eqb-suc-zero, lit<, lit≤}
use lib.IntN.{ℤ, pos, negsuc}
use lib.Ieee.{Float, nan, inf, fin, binary32, up, down, unlike, round, sum, add, sub, mul, div, neg, lt, le, of_bits}
use lib.Ieee.Bits.{is_true}
use lib.Ieee.Fits.{down_pos, up_pos}
use lib.Ieee.Order.{round_mono}
use lib.Ieee.Scale.{finite}
use borrow.Author.Tests.{ltb-false}
use Rattle.float32.specs.Meaning.{abs_of}
use Rattle.exact.specs.Whole.{Small}
use Rattle.exact.proofs.Bounds.{small_round}
use Rattle.errors.specs.Sizes.{AtMost}
use Rattle.errors.proofs.Sizes.{add_small, most_of_le, abs_round}
use Rattle.util.specs.Constants as Number
use Rattle.sum_theorems.specs.Sums.{Tame}
use Rattle.rounded.proofs.Rises.{Gap, pl, mi, sum_rd, nought}

-- ---- quotients
pub div_wild : (u w : Float) (N : ℕ) → finite w ≡ false → Tame (div binary32 u w) N
unfolding div
div_wild nan w N h = inl refl
div_wild (inf s) nan N h = inl refl
div_wild (inf s) (inf t) N h = inl refl
div_wild (inf s) (fin t n d) N h = absurd (true≢false h)
div_wild (fin s m e) nan N h = inl refl
div_wild (fin s m e) (inf t) N h = inr (omega arith)
div_wild (fin s m e) (fin t n d) N h = absurd (true≢false h)

pub sub_wild_left : (x y : Float) → finite x ≡ false → finite (sub binary32 x y) ≡ false
unfolding sub add neg
sub_wild_left nan y h = refl
sub_wild_left (inf s) nan h = refl
sub_wild_left (inf true) (inf true) h = refl
sub_wild_left (inf true) (inf false) h = refl
sub_wild_left (inf false) (inf true) h = refl
sub_wild_left (inf false) (inf false) h = refl
sub_wild_left (inf s) (fin t n d) h = refl
sub_wild_left (fin s m e) y h = absurd (true≢false h)

pub sub_wild_right : (x y : Float) → finite y ≡ false → finite (sub binary32 x y) ≡ false
unfolding sub add neg
sub_wild_right nan y h = refl
sub_wild_right (inf s) nan h = refl
sub_wild_right (inf true) (inf true) h = refl
sub_wild_right (inf true) (inf false) h = refl
sub_wild_right (inf false) (inf true) h = refl
sub_wild_right (inf false) (inf false) h = refl
sub_wild_right (inf s) (fin t n d) h = absurd (true≢false h)
sub_wild_right (fin s m e) nan h = refl
sub_wild_right (fin s m e) (inf t) h = refl
sub_wild_right (fin s m e) (fin t n d) h = absurd (true≢false h)

-- by a number that isn't 0
quotient : (s : Bool) (m : ℕ) (e : ℤ) (t : Bool) (n : ℕ) (d : ℤ) (N : ℕ) → N ≤ 2 ^ 24 → m * up e * down d ≤ N * (suc n * up d * down e) → Small (div binary32 (fin s m e) (fin t (suc n) d)) N
unfolding div
quotient s m e t n d N b h =
    rw (eqb-suc-zero n)
    (small_round (unlike s t) (m * up e * down d) (suc n * up d * down e) N (mul-pos (mul-pos (native.Mathlib.Nat.zero-lt-suc n) (up_pos d)) (down_pos e)) b h)

-- 0 by 0
nothing : (s : Bool) (m : ℕ) (e : ℤ) (t : Bool) (d : ℤ) → m ≡ 0 → div binary32 (fin s m e) (fin t 0 d) ≡ nan
unfolding div
nothing s m e t d z = ap (λ (k : ℕ). cond (eqb k 0) nan (inf (unlike s t))) z

none : (m : ℕ) (e d : ℤ) → m * up e * down d ≤ 0 * up d * down e → m ≡ 0
none m e d h =
    let o : m * up e * down d ≤ 0 = le_trans h (le_of_eq (ap (λ (k : ℕ). k * down e) (zero-mul (up d)) ∙ zero-mul (down e))) in
    nought m (up e) (up_pos e) (le_of_eq (nought (m * up e) (down d) (down_pos d) o))

pub div_under : (u w : Float) → lt (abs_of w) (abs_of u) ≡ false → Tame (div binary32 u w) 1
unfolding lt abs_of
div_under nan w h = inl (unfold div in refl)
div_under (inf s) nan h = inl (unfold div in refl)
div_under (inf s) (inf t) h = inl (unfold div in refl)
div_under (inf s) (fin t n d) h = absurd (true≢false h)
div_under (fin s m e) nan h = inl (unfold div in refl)
div_under (fin s m e) (inf t) h = div_wild (fin s m e) (inf t) 1 refl
div_under (fin s m e) (fin t zero d) h = inl (nothing s m e t d (none m e d (ltb-false (0 * up d * down e) (m * up e * down d) h)))
div_under (fin s m e) (fin t (suc n) d) h =
    let o : m * up e * down d ≤ suc n * up d * down e = ltb-false (suc n * up d * down e) (m * up e * down d) h in
    inr (quotient s m e t n d 1 (lit≤ tt) (omega (arith, o)))

-- by what is 2 ^ -21 at least in size
abbrev pub speck : Float
speck = fin false 1 (negsuc 20)

pub div_wide : (u w : Float) (K : ℕ) → K ≤ 8 → Small u K → lt (abs_of w) speck ≡ false → Tame (div binary32 u w) (K * 2097152)
unfolding lt abs_of
div_wide nan w K b k h = absurd k
div_wide (inf s) w K b k h = absurd k
div_wide (fin s m e) nan K b k h = inl (unfold div in refl)
div_wide (fin s m e) (inf t) K b k h = div_wild (fin s m e) (inf t) (K * 2097152) refl
div_wide (fin s m e) (fin t zero d) K b k h =
    let o : 1 * down d ≤ 0 * up d * 2097152 = ltb-false (0 * up d * 2097152) (1 * down d) h in
    absurd (omega (arith, o, zero-mul (up d), down_pos d))
div_wide (fin s m e) (fin t (suc n) d) K b k h =
    let o : 1 * down d ≤ suc n * up d * 2097152 = ltb-false (suc n * up d * 2097152) (1 * down d) h in
    inr (quotient s m e t n d (K * 2097152) (omega (arith, b)) (spread (m * up e) (down e) (down d) (suc n * up d) K k o))
  where
    spread : (A D E B K : ℕ) → A ≤ K * D → 1 * E ≤ B * 2097152 → A * E ≤ K * 2097152 * (B * D)
    spread A D E B K h k =
        let u : A * E ≤ K * D * E = mul-le-mul_right E h in
        let v : 1 * E * (K * D) ≤ B * 2097152 * (K * D) = mul-le-mul_right (K * D) k in
        omega (arith, u, v)

-- ---- products and sums
pub mul_small : (x y : Float) (N M : ℕ) → N * M ≤ 2 ^ 24 → Small x N → Small y M → Small (mul binary32 x y) (N * M)
unfolding mul
mul_small nan y N M b h k = absurd h
mul_small (inf s) y N M b h k = absurd h
mul_small (fin s m e) nan N M b h k = absurd k
mul_small (fin s m e) (inf t) N M b h k = absurd k
mul_small (fin s m e) (fin t n d) N M b h k =
    small_round (unlike s t) (m * up e * (n * up d)) (down e * down d) (N * M) (mul-pos (down_pos e) (down_pos d)) b
    (le_trans (mul-le-mul h k) (le_of_eq (mul-mul-mul_comm N (down e) M (down d))))

-- half of a number
pub half_small : (x : Float) (N : ℕ) → N ≤ 2 ^ 24 → Small x (N * 2) → Small (mul binary32 Number.half x) N
unfolding mul of_bits
half_small nan N b h = absurd h
half_small (inf s) N b h = absurd h
half_small (fin s m e) N b h = small_round (unlike false s) (1 * 1 * (m * up e)) (2 * down e) N (mul-pos (lit< tt) (down_pos e)) b (omega (arith, h))

pub mul_tame : (x y : Float) (N M : ℕ) → N * M ≤ 2 ^ 24 → Tame x N → Small y M → Tame (mul binary32 x y) (N * M)
mul_tame x y N M b (inl e) k = inl (ap (λ (z : Float). mul binary32 z y) e ∙ (unfold mul in refl))
mul_tame x y N M b (inr h) k = inr (mul_small x y N M b h k)

add_nan : (x : Float) → add binary32 x nan ≡ nan
unfolding add
add_nan nan = refl
add_nan (inf s) = refl
add_nan (fin s m e) = refl

pub add_tame : (x y : Float) (N M : ℕ) → N + M ≤ 2 ^ 24 → Small x N → Tame y M → Tame (add binary32 x y) (N + M)
add_tame x y N M b h (inl e) = inl (ap (add binary32 x) e ∙ add_nan x)
add_tame x y N M b h (inr k) = inr (add_small x y N M b h k)

-- ---- sums that don't grow any more: what is at most 2 ^ 24 is less than half a unit of the last place at 2 ^ 49
abbrev pub sum_most : ℕ
sum_most = 2 ^ 49

rounds_down : round binary32 false (2 ^ 49 + 2 ^ 24) 1 ≡ fin false 1 (pos 49)
unfolding round
rounds_down = refl

pub of_most : (x : Float) (N : ℕ) → AtMost x N 1 → Small x N
of_most nan N h = h
of_most (inf s) N h = h
of_most (fin s m e) N h = le_trans (le_of_eq (sym (mul-one (m * up e)))) h

pub still : (s : Bool) (a c : ℕ) → 0 < c → a ≤ (2 ^ 49 + 2 ^ 24) * c → Small (round binary32 s a c) sum_most
still s a c C h =
    of_most (round binary32 s a c) (2 ^ 49)
    (most_of_le (round binary32 s a c) (fin false 1 (pos 49)) (2 ^ 49) 1 (refl, refl)
    (subst (λ (y : Float). le y (fin false 1 (pos 49)) ≡ true) (sym (abs_round s a c))
    (subst (λ (w : Float). le (round binary32 false a c) w ≡ true) rounds_down
    (is_true (le (round binary32 false a c) (round binary32 false (2 ^ 49 + 2 ^ 24) 1)) (round_mono binary32 a c (2 ^ 49 + 2 ^ 24) 1 C (lit< tt) (le_trans (le_of_eq (mul-one a)) h))))))

-- a sum is rounded from what is a + b at most
pub sum_size : (s : Bool) (a : ℕ) (t : Bool) (b c : ℕ) → (u : Bool) × (k : ℕ) × (sum binary32 s a t b c ≡ round binary32 u k c) × (k ≤ a + b)
sum_size s a t b c = let r = sum_rd s a t b c in (r.s, r.k, r.is, within s t r.s r.k r.gap)
  where
    within : (s t u : Bool) (k : ℕ) → Gap u k (pl s a + pl t b) (mi s a + mi t b) → k ≤ a + b
    within false false false k g = omega (arith, g)
    within false false true k g = omega (arith, g)
    within false true false k g = omega (arith, g)
    within false true true k g = omega (arith, g)
    within true false false k g = omega (arith, g)
    within true false true k g = omega (arith, g)
    within true true false k g = omega (arith, g)
    within true true true k g = omega (arith, g)

sum_still : (s : Bool) (a : ℕ) (t : Bool) (b c : ℕ) → 0 < c → a + b ≤ (2 ^ 49 + 2 ^ 24) * c → Small (sum binary32 s a t b c) sum_most
sum_still s a t b c C h = let w = sum_size s a t b c in subst (λ (y : Float). Small y sum_most) (sym w.2) (still w.0 w.1 c C (le_trans w.3 h))

pub step_small : (x y : Float) → Small x sum_most → Small y (2 ^ 24) → Small (add binary32 x y) sum_most
unfolding add
step_small nan y h k = absurd h
step_small (inf s) y h k = absurd h
step_small (fin s m e) nan h k = absurd k
step_small (fin s m e) (inf t) h k = absurd k
step_small (fin s m e) (fin t n d) h k =
    sum_still s (m * up e * down d) t (n * up d * down e) (down e * down d) (mul-pos (down_pos e) (down_pos d)) (over (m * up e) (down e) (n * up d) (down d) h k)
  where
    over : (A D B E : ℕ) → A ≤ 2 ^ 49 * D → B ≤ 2 ^ 24 * E → A * E + B * D ≤ (2 ^ 49 + 2 ^ 24) * (D * E)
    over A D B E h k = omega (arith, mul-le-mul_right E h, mul-le-mul_right D k)

pub step_tame : (x y : Float) → Tame x sum_most → Tame y (2 ^ 24) → Tame (add binary32 x y) sum_most
step_tame x y (inl e) k = inl (ap (λ (z : Float). add binary32 z y) e ∙ (unfold add in refl))
step_tame x y (inr h) (inl e) = inl (ap (add binary32 x) e ∙ add_nan x)
step_tame x y (inr h) (inr k) = inr (step_small x y h k)
