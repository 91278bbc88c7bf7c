-- As many numbers as there are below m, all below m and no two the same, are all the numbers below m, each once. Assumes nothing.
use mathlib.Core.Path.{◌≡◌, refl, sym, ◌∙◌}
use mathlib.Core.Logic.{◌≢◌}
use mathlib.Core.List.{List, [], ◌∷◌}
use Prim.Native.Nat.{ℕ, zero, suc, ◌+◌, ◌≤◌, ◌<◌}
use native.Mathlib.Nat.{not-suc-le-zero, le_of_suc-le-suc}
use native.Mathlib.Decide.{ℕ_discrete}
use native.Mathlib.Omega.{arith}
use lib.ListN.{length, get_or, length-replicate}
use Rattle.lists.specs.Run.{All}
use Rattle.lists.specs.Sums.{sum}
use Rattle.lists.specs.Occ.{is, occ, is_same, is_other}
use Rattle.lists.specs.Tally.{tally, Below, Distinct, zeros, length_tally, count_is_occ, count_sum}

none_in : (k : ℕ) (ts : List ℕ) → All (λ u. u ≢ k) ts → occ k ts ≡ 0
none_in k [] a = refl
none_in k (t ∷ ts) a = omega (arith, is_other t k a.0, none_in k ts a.1)

-- where no two are the same, a number stands at most once
pub once_at_most : (k : ℕ) (ts : List ℕ) → Distinct ts → occ k ts ≤ 1
once_at_most k [] d = omega arith
once_at_most k (t ∷ ts) d = go (ℕ_discrete t k) (once_at_most k ts d.1)
  where
    go : Dec (t ≡ k) → occ k ts ≤ 1 → is t k + occ k ts ≤ 1
    go (yes e) ih = omega (arith, is_same t k e, none_in k ts (rw e at d.0))
    go (no e) ih = omega (arith, is_other t k e)

abbrev AtMostOne : List ℕ → Type 0
AtMostOne l = (i : ℕ) → i < length l → get_or l i 0 ≤ 1

tail_one : (x : ℕ) (l : List ℕ) → AtMostOne (x ∷ l) → AtMostOne l
tail_one x l f i h = f (suc i) (omega arith)

few : (l : List ℕ) → AtMostOne l → sum l ≤ length l
few [] f = omega arith
few (x ∷ l) f = omega (arith, f 0 (omega arith), few l (tail_one x l f))

full : (l : List ℕ) → AtMostOne l → length l ≤ sum l → (i : ℕ) → i < length l → get_or l i 0 ≡ 1
full [] f e i h = absurd (not-suc-le-zero h)
full (x ∷ l) f e zero h = omega (arith, f 0 (omega arith), few l (tail_one x l f))
full (x ∷ l) f e (suc i) h = full l (tail_one x l f) (omega (arith, f 0 (omega arith))) i (le_of_suc-le-suc h)

-- all of them, each once
pub all_there : (m : ℕ) (ks : List ℕ) → Below m ks → Distinct ks → m ≤ length ks → (k : ℕ) → k < m → occ k ks ≡ 1
all_there m ks b d e k h =
    sym (count_is_occ m ks k h)
    ∙ full counts (λ i l. rw (count_is_occ m ks i (omega (arith, size))) (once_at_most i ks d)) (omega (arith, size, count_sum m ks b)) k (omega (arith, size))
  where
    counts : List ℕ
    counts = tally (zeros m) ks

    size : length counts ≡ m
    size = length_tally (zeros m) ks ∙ length-replicate m 0

-- and there are no more
pub no_more : (m : ℕ) (ks : List ℕ) → Below m ks → Distinct ks → length ks ≤ m
no_more m ks b d =
    omega (arith, size, count_sum m ks b, few counts (λ i l. rw (count_is_occ m ks i (omega (arith, size))) (once_at_most i ks d)))
  where
    counts : List ℕ
    counts = tally (zeros m) ks

    size : length counts ≡ m
    size = length_tally (zeros m) ks ∙ length-replicate m 0
