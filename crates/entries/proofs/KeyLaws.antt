-- Keys: the place of an entry when ranges are laid one after another tells the range and the place in it; and ranges of one key meet where their keys are
-- equal. Assumes nothing.
use mathlib.Core.Path.{◌≡◌, sym, ap, ◌∙◌}
use mathlib.Core.List.{List}
use Prim.Native.Nat.{ℕ, ◌+◌, ◌≤◌, ◌<◌, min, max}
use native.Mathlib.Omega.{arith}
use native.Mathlib.Decide.{ℕ_discrete}
use lib.Dec.{ltb, eqb}
use lib.ListN.{get_or}
use borrow.Author.Tests.{lt-ltb, le-ltb, eq-eqb, ne_eqb}
use Rattle.lists.specs.Sums.{first, placed_once}
use Rattle.meeting.specs.First.{first_of, some_below_word}
use Rattle.meeting.specs.Meeting.{meets, meets_earlier, first_meeting}
use Rattle.meeting.proofs.FirstLaws.{first_same}

-- two entries of ranges laid one after another have one key only if they are one entry
pub key_once : (cs : List ℕ) (t u i j : ℕ) → i < get_or cs t 0 → j < get_or cs u 0 → first cs t + i ≡ first cs u + j → (t ≡ u) × (i ≡ j)
key_once cs t u i j hi hj e =
    let same : t ≡ u = placed_once cs (first cs t + i) t u (omega arith) (omega arith) (omega arith) (omega arith) in
    (same, omega (arith, ap (first cs) same))

-- ranges of one key
pub one_key : (a b : ℕ) → ltb (max a b) (min (a + 1) (b + 1)) ≡ eqb b a
one_key a b = go (ℕ_discrete b a)
  where
    go : Dec (b ≡ a) → ltb (max a b) (min (a + 1) (b + 1)) ≡ eqb b a
    go (yes e) = let h : max a b < min (a + 1) (b + 1) = omega arith in lt-ltb (max a b) (min (a + 1) (b + 1)) h ∙ sym (eq-eqb b a e)
    go (no e) = let h : min (a + 1) (b + 1) ≤ max a b = omega (arith, e) in le-ltb (max a b) (min (a + 1) (b + 1)) h ∙ sym (ne_eqb b a e)

-- the first key that an earlier entry has
pub first_repeat : (key : ℕ → ℕ) (n : ℕ) → first_meeting key (λ i. 1) n ≡ first_of (λ i. some_below_word (λ j. eqb (key j) (key i)) i) n
unfolding first_meeting meets_earlier
first_repeat key n =
    first_same (λ i. some_below_word (meets key (λ k. 1) i) i) (λ i. some_below_word (λ j. eqb (key j) (key i)) i) n
    (λ i h. ap (λ (r : ℕ). ltb r i) (first_same (meets key (λ k. 1) i) (λ j. eqb (key j) (key i)) i (λ j l. one_key (key i) (key j))))
