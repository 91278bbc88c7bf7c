-- Bounds on the size of what is computed: rounding is monotone, so it goes beyond no number that an `f32` holds. Assumes nothing.
--     most_of_le     what a comparison with p / c tells
--     round_most     a fraction that is p / 2 ^ j at most, rounded
--     add_small, sub_small   a sum and a difference of numbers that are N and M at most
use mathlib.Core.Path.{◌≡◌, sym, ap, subst}
use mathlib.Core.Bool.{Bool, true, false, cond, true≢false, false≢true}
use Prim.Native.Nat.{ℕ, suc, ◌+◌, ◌-◌, ◌*◌, ◌^◌, ◌≤◌, ◌<◌}
use native.Mathlib.Nat.{le_of_eq, add-mul, mul_assoc, mul_comm, mul-pos, mul-le-mul_right}
use native.Mathlib.Omega.{arith}
use lib.Dec.{ltb}
use lib.IntN.{ℤ}
use lib.Pow.{pow_pos}
use lib.Ieee.{Float, nan, inf, fin, binary32, up, down, round, sum, add, sub, neg, le, lt}
use lib.Ieee.Bits.{is_true}
use lib.Ieee.Fits.{down_pos}
use lib.Ieee.Exact.{HasValue}
use lib.Ieee.Order.{round_mono}
use lib.Ieee.Positive.{through}
use borrow.Author.Tests.{ltb-false}
use Rattle.float32.specs.Meaning.{abs_of}
use Rattle.float32.proofs.Order.{not_lt_of_le}
use Rattle.float32.proofs.Nearest.{part_exact}
use Rattle.exact.specs.Whole.{Small}
use Rattle.exact.proofs.Bounds.{small_round}
pub use Rattle.walk.proofs.Apart.{abs_round}
use Rattle.errors.specs.Sizes.{AtMost}

-- ---- what a comparison tells
cross_of_le : (m : ℕ) (e : ℤ) (n : ℕ) (d : ℤ) → le (fin false m e) (fin false n d) ≡ true → m * up e * down d ≤ n * up d * down e
unfolding lt
cross_of_le m e n d h = ltb-false (n * up d * down e) (m * up e * down d) (not_lt_of_le (fin false m e) (fin false n d) h)

pub most_of_le : (x w : Float) (p c : ℕ) → HasValue w false p c → le (abs_of x) w ≡ true → AtMost x p c
unfolding abs_of
most_of_le x nan p c v h = absurd v
most_of_le x (inf t) p c v h = absurd v
most_of_le nan (fin t n d) p c v h = absurd (unfold le in false≢true h)
most_of_le (inf s) (fin t n d) p c v h = absurd (unfold le in false≢true h)
most_of_le (fin s m e) (fin true n d) p c v h = absurd (true≢false v.0)
most_of_le (fin s m e) (fin false n d) p c v h = through (m * up e) (n * up d) p (down e) (down d) c (down_pos d) (cross_of_le m e n d h) (le_of_eq v.1)

-- ---- rounding
-- p / c is a number that an `f32` holds
pub round_below : (s : Bool) (a c p d : ℕ) → 0 < c → 0 < d → HasValue (round binary32 false p d) false p d → a * d ≤ p * c → AtMost (round binary32 s a c) p d
round_below s a c p d C D v h =
    let w = round binary32 false p d in
    most_of_le (round binary32 s a c) w p d v
    (subst (λ (y : Float). le y w ≡ true) (sym (abs_round s a c)) (is_true (le (round binary32 false a c) w) (round_mono binary32 a c p d C D h)))

pub round_most : (s : Bool) (a c p k : ℕ) → 0 < c → p < 2 ^ 24 → 2 ^ suc k ≤ 2 ^ 149 → a * 2 ^ suc k ≤ p * c → AtMost (round binary32 s a c) p (2 ^ suc k)
round_most s a c p k C P K h = round_below s a c p (2 ^ suc k) C (pow_pos (suc k)) (part_exact false p k P K) h

-- ---- sums: what is rounded is a + b at most
sum_small : (s t : Bool) (a b c N : ℕ) → 0 < c → N ≤ 2 ^ 24 → a + b ≤ N * c → Small (sum binary32 s a t b c) N
unfolding sum
sum_small false false a b c N C n h = small_round false (a + b) c N C n h
sum_small true true a b c N C n h = small_round true (a + b) c N C n h
sum_small false true a b c N C n h = go (ltb a b)
  where
    go : (t : Bool) → Small (cond t (round binary32 true (b - a) c) (round binary32 false (a - b) c)) N
    go true = small_round true (b - a) c N C n (omega arith)
    go false = small_round false (a - b) c N C n (omega arith)
sum_small true false a b c N C n h = go (ltb a b)
  where
    go : (t : Bool) → Small (cond t (round binary32 false (b - a) c) (round binary32 (ltb b a) (a - b) c)) N
    go true = small_round false (b - a) c N C n (omega arith)
    go false = small_round (ltb b a) (a - b) c N C n (omega arith)

both : (A D B E N M : ℕ) → A ≤ N * D → B ≤ M * E → A * E + B * D ≤ (N + M) * (D * E)
both A D B E N M h k =
    omega (arith, mul-le-mul_right E h, mul-le-mul_right D k, add-mul N M (D * E), mul_assoc N D E, mul_assoc M E D, ap (λ (z : ℕ). M * z) (mul_comm E D))

pub add_small : (x y : Float) (N M : ℕ) → N + M ≤ 2 ^ 24 → Small x N → Small y M → Small (add binary32 x y) (N + M)
unfolding add
add_small nan y N M n h k = absurd h
add_small (inf s) y N M n h k = absurd h
add_small (fin s m e) nan N M n h k = absurd k
add_small (fin s m e) (inf t) N M n h k = absurd k
add_small (fin s m e) (fin t j d) N M n h k =
    sum_small s t (m * up e * down d) (j * up d * down e) (down e * down d) (N + M) (mul-pos (down_pos e) (down_pos d)) n (both (m * up e) (down e) (j * up d) (down d) N M h k)

neg_small : (x : Float) (N : ℕ) → Small x N → Small (neg x) N
unfolding neg
neg_small nan N h = h
neg_small (inf s) N h = h
neg_small (fin s m e) N h = h

pub sub_small : (x y : Float) (N M : ℕ) → N + M ≤ 2 ^ 24 → Small x N → Small y M → Small (sub binary32 x y) (N + M)
unfolding sub
sub_small x y N M n h k = add_small x (neg y) N M n h (neg_small y M k)

pub abs_small : (x : Float) (N : ℕ) → Small x N → Small (abs_of x) N
unfolding abs_of
abs_small nan N h = h
abs_small (inf s) N h = h
abs_small (fin s m e) N h = h
