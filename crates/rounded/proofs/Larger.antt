-- Of a float and 0 less it the larger is its size: a NaN stays, and a zero is +0. Assumes nothing.
-- Of `fin s m e` the size is A / D, with A = m * up e and D = down e.
use mathlib.Core.Path.{◌≡◌, refl, ap, ◌∙◌}
use mathlib.Core.Bool.{Bool, true, false, cond}
use Prim.Native.Nat.{ℕ, ◌+◌, ◌-◌, ◌*◌, ◌<◌, ◌≤◌}
use native.Mathlib.Nat.{one-mul, mul-pos}
use native.Mathlib.Omega.{arith}
use lib.Dec.{T, ltb}
use lib.IntN.{ℤ}
use lib.Ieee.{Float, nan, inf, fin, binary32, up, down, lt, neg, add, sub, sum, round, fits, of_bits}
use lib.Ieee.Fits.{down_pos, neg-fits}
use borrow.Author.Tests.{lt-ltb, ltb-true, ltb-false}
use Rattle.float32.specs.Meaning.{abs_of}
use Rattle.float32.proofs.Same.{round_own}
use Rattle.util.specs.Constants.{zero}

abbrev larger : Float → Float → Float
larger v less = cond (lt less v) v less

-- ---- 0 less a number
some_more : (A D : ℕ) → 0 * 1 * D + A * 1 ≡ A
some_more A D = omega arith

some_less : (A D : ℕ) → A * 1 - 0 * 1 * D ≡ A
some_less A D = omega arith

none_left : (A D : ℕ) → A * 1 ≤ 0 * 1 * D → 0 * 1 * D - A * 1 ≡ A
none_left A D h = omega arith

from_minus : (A D : ℕ) → sum binary32 false (0 * 1 * D) false (A * 1) (1 * D) ≡ round binary32 false A D
unfolding sum
from_minus A D = rw (some_more A D, one-mul D) refl

from_plus : (A D : ℕ) → ltb (0 * 1 * D) (A * 1) ≡ true → sum binary32 false (0 * 1 * D) true (A * 1) (1 * D) ≡ round binary32 true A D
unfolding sum
from_plus A D i = rw (i, some_less A D, one-mul D) refl

from_none : (A D : ℕ) → ltb (0 * 1 * D) (A * 1) ≡ false → sum binary32 false (0 * 1 * D) true (A * 1) (1 * D) ≡ round binary32 false A D
unfolding sum
from_none A D i = rw (i, none_left A D (ltb-false (0 * 1 * D) (A * 1) i), one-mul D) refl

-- ---- the larger of the two
same : (t : Bool) (x : Float) → cond t x x ≡ x
same true x = refl
same false x = refl

-- below itself with a minus sign, where it isn't 0
above : (A D : ℕ) → 0 < D → ltb (0 * 1 * D) (A * 1) ≡ true → ltb 0 (A * D + A * D) ≡ true
above A D h i = lt-ltb 0 (A * D + A * D) (go (A * D) (mul-pos (some A D (ltb-true (0 * 1 * D) (A * 1) i)) h))
  where
    some : (A D : ℕ) → 0 * 1 * D < A * 1 → 0 < A
    some A D h = omega arith

    go : (n : ℕ) → 0 < n → 0 < n + n
    go n h = omega arith

plus : (m : ℕ) (e : ℤ) → T (fits binary32 (fin false m e)) → larger (fin false m e) (sub binary32 zero (fin false m e)) ≡ fin false m e
unfolding sub add neg of_bits
plus m e h = go (ltb (0 * 1 * down e) (m * up e * 1)) refl
  where
    v : Float
    v = fin false m e

    go : (b : Bool) → ltb (0 * 1 * down e) (m * up e * 1) ≡ b → larger v (sum binary32 false (0 * 1 * down e) true (m * up e * 1) (1 * down e)) ≡ v
    go true i =
        ap (larger v) (from_plus (m * up e) (down e) i ∙ round_own true m e (minus_fits m e h))
        ∙ ap (λ (t : Bool). cond t v (fin true m e)) (under m e i)
      where
        minus_fits : (m : ℕ) (e : ℤ) → T (fits binary32 (fin false m e)) → T (fits binary32 (fin true m e))
        minus_fits m e h = unfold neg in neg-fits binary32 (fin false m e) h

        under : (m : ℕ) (e : ℤ) → ltb (0 * 1 * down e) (m * up e * 1) ≡ true → lt (fin true m e) (fin false m e) ≡ true
        under m e i = unfold lt in above (m * up e) (down e) (down_pos e) i
    go false i = ap (larger v) (from_none (m * up e) (down e) i ∙ round_own false m e h) ∙ same (lt v v) v

minus : (m : ℕ) (e : ℤ) → T (fits binary32 (fin true m e)) → larger (fin true m e) (sub binary32 zero (fin true m e)) ≡ fin false m e
unfolding sub add neg of_bits lt
minus m e h = ap (larger (fin true m e)) (from_minus (m * up e) (down e) ∙ round_own false m e (plus_fits m e h))
  where
    plus_fits : (m : ℕ) (e : ℤ) → T (fits binary32 (fin true m e)) → T (fits binary32 (fin false m e))
    plus_fits m e h = unfold neg in neg-fits binary32 (fin true m e) h

pub larger_is : (v : Float) → T (fits binary32 v) → larger v (sub binary32 zero v) ≡ abs_of v
unfolding abs_of
larger_is nan h = unfold sub add neg of_bits lt in refl
larger_is (inf true) h = unfold sub add neg of_bits lt in refl
larger_is (inf false) h = unfold sub add neg of_bits lt in refl
larger_is (fin true m e) h = minus m e h
larger_is (fin false m e) h = plus m e h
