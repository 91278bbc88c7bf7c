-- Loops that store 0 or flags into working room: one turn of each. Assumes nothing.
use mathlib.Core.Path.{◌≡◌, refl, sym, ◌∙◌}
use mathlib.Core.Logic.{◌≢◌, ◌⊎◌, inl, inr, ⊎_elim}
use mathlib.Core.List.{List, [], ◌∷◌}
use Prim.Native.Nat.{ℕ, zero, suc, ◌+◌, ◌-◌, ◌≤◌, ◌<◌}
use native.Mathlib.Nat.{not-suc-le-zero, le_of_suc-le-suc}
use native.Mathlib.Omega.{arith}
use native.Mathlib.Decide.{ℕ_discrete}
use lib.ListN.{length, get_or, set, length-set, get_or-eq_default}
use lib.Seq.{get_or-set_same, get_or-set_other}
use Rattle.lists.specs.GridLaws.{le_or_lt}
use Rattle.lists.specs.Sums.{sum, sum_set}
use Rattle.meeting.specs.Found.{KeptBelow, ClearFrom, FlagsNew, FlagRan}

-- a word after a store: the one stored, or as it was
pub stored_or : (l : List ℕ) (i v j : ℕ) → i < length l → ((j ≡ i) × (get_or (set l i v) j 0 ≡ v)) ⊎ ((j ≢ i) × (get_or (set l i v) j 0 ≡ get_or l j 0))
stored_or l i v j h = go (ℕ_discrete j i)
  where
    go : Dec (j ≡ i) → ((j ≡ i) × (get_or (set l i v) j 0 ≡ v)) ⊎ ((j ≢ i) × (get_or (set l i v) j 0 ≡ get_or l j 0))
    go (yes e) = inl (e, rw e (get_or-set_same l i v 0 h))
    go (no e) = inr (e, get_or-set_other l i j v 0 e)

pub kept_all : (free : ℕ) (ws : List ℕ) → KeptBelow free ws ws
kept_all free ws = record { same_length = refl; kept = λ k h. refl }

pub kept_store : (free k v : ℕ) (ws₀ ws : List ℕ) → free ≤ k → KeptBelow free ws₀ ws → KeptBelow free ws₀ (set ws k v)
kept_store free k v ws₀ ws l b =
    record {
      same_length = length-set ws k v ∙ b.same_length;
      kept = λ j h. get_or-set_other ws k j v 0 (λ e. omega arith) ∙ b.kept j h;
    }

pub kept_trans : (free : ℕ) (ws ws' ws'' : List ℕ) → KeptBelow free ws ws' → KeptBelow free ws' ws'' → KeptBelow free ws ws''
kept_trans free ws ws' ws'' a b = record { same_length = b.same_length ∙ a.same_length; kept = λ j h. b.kept j h ∙ a.kept j h }

pub kept_less : (free low : ℕ) (ws ws' : List ℕ) → low ≤ free → KeptBelow free ws ws' → KeptBelow low ws ws'
kept_less free low ws ws' l b = record { same_length = b.same_length; kept = λ j h. b.kept j (omega arith) }

-- ---- clearing

abbrev pub ClearTo : (free k : ℕ) → List ℕ → Type 0
ClearTo free k ws = (j : ℕ) → free ≤ j → j < k → get_or ws j 0 ≡ 0

pub clear_turn : (free k : ℕ) (ws : List ℕ) → k < length ws → ClearTo free k ws → ClearTo free (k + 1) (set ws k 0)
clear_turn free k ws h f j l u = ⊎_elim (λ a. a.1) (λ a. a.1 ∙ f j l (omega (arith, a.0))) (stored_or ws k 0 j h)

pub clear_end : (free k : ℕ) (ws : List ℕ) → length ws ≤ k → ClearTo free k ws → ClearFrom free ws
clear_end free k ws h f j l = ⊎_elim (λ a. get_or-eq_default ws 0 (omega arith)) (λ a. f j l a) (le_or_lt k j)

-- ---- flags from a up to k, none of which stood before

pub flags_none : (ws : List ℕ) (a : ℕ) → FlagsNew ws ws a a
flags_none ws a =
    record {
      none = λ k l u. absurd (omega arith);
      now_flagged = λ k l u. absurd (omega arith);
      before = λ k l. refl;
      after = λ k l. refl;
    }

pub flags_turn : (ws₀ ws : List ℕ) (a k : ℕ) → a ≤ k → k < length ws → get_or ws k 0 ≡ 0 → FlagsNew ws₀ ws a k → FlagsNew ws₀ (set ws k 1) a (k + 1)
flags_turn ws₀ ws a k l h z f =
    record {
      none = none;
      now_flagged = λ j p q. ⊎_elim (λ (e : (j ≡ k) × (get_or (set ws k 1) j 0 ≡ 1)). e.1)
          (λ (e : (j ≢ k) × (get_or (set ws k 1) j 0 ≡ get_or ws j 0)). e.1 ∙ f.now_flagged j p (omega (arith, e.0))) (stored_or ws k 1 j h);
      before = λ j p. get_or-set_other ws k j 1 0 (λ e. omega arith) ∙ f.before j p;
      after = λ j p. get_or-set_other ws k j 1 0 (λ e. omega arith) ∙ f.after j (omega arith);
    }
  where
    none : (j : ℕ) → a ≤ j → j < k + 1 → get_or ws₀ j 0 ≡ 0
    none j p q =
        ⊎_elim (λ (e : k ≤ j). let same : j ≡ k = omega arith in rw same (sym (f.after k (omega arith)) ∙ z)) (λ (e : j < k). f.none j p e) (le_or_lt k j)

pub flag_turn_sum : (ws₀ ws : List ℕ) (a k : ℕ) → a ≤ k → k < length ws → get_or ws k 0 ≡ 0 → sum ws ≡ sum ws₀ + (k - a) → sum (set ws k 1) ≡ sum ws₀ + (k + 1 - a)
flag_turn_sum ws₀ ws a k l h z e = omega (arith, sum_set ws k 1 h)

pub flag_here : (ws₀ ws : List ℕ) (a b k : ℕ) → a ≤ k → k < b → (get_or ws k 0 ≡ 0 → ⊥) → FlagsNew ws₀ ws a k → sum ws ≡ sum ws₀ + (k - a) → FlagRan ws₀ ws a b k
flag_here ws₀ ws a b k l h n f e =
    record { from = l; to = omega arith; new = f; stood = λ q z. n (f.after k (omega arith) ∙ z); more = e }

pub flag_end : (ws₀ ws : List ℕ) (a b : ℕ) → a ≤ b → FlagsNew ws₀ ws a b → sum ws ≡ sum ws₀ + (b - a) → FlagRan ws₀ ws a b b
flag_end ws₀ ws a b l f e = record { from = l; to = omega arith; new = f; stood = λ q. absurd (omega arith); more = e }

-- ---- flags are 0 or 1, so there are no more of them than words

abbrev pub OnesFrom : ℕ → List ℕ → Type 0
OnesFrom free ws = (k : ℕ) → free ≤ k → get_or ws k 0 ≤ 1

pub ones_new : (free a b : ℕ) (ws ws' : List ℕ) → FlagsNew ws ws' a b → OnesFrom free ws → OnesFrom free ws'
ones_new free a b ws ws' f o k l =
    ⊎_elim
    (λ (p : a ≤ k). ⊎_elim (λ (q : b ≤ k). omega (arith, f.after k q, o k l)) (λ (q : k < b). omega (arith, f.now_flagged k p q)) (le_or_lt b k))
    (λ (p : k < a). omega (arith, f.before k p, o k l))
    (le_or_lt a k)

pub sum_ones : (free : ℕ) (us ws : List ℕ) → length ws ≡ length us → ((k : ℕ) → k < free → get_or ws k 0 ≡ get_or us k 0) → OnesFrom free ws
    → sum ws ≤ sum us + (length ws - free)
sum_ones free [] [] e f o = omega arith
sum_ones free [] (y ∷ ws) e f o = absurd (omega arith)
sum_ones free (x ∷ us) [] e f o = absurd (omega arith)
sum_ones zero (x ∷ us) (y ∷ ws) e f o =
    omega (arith, o 0 (omega arith), sum_ones zero us ws (omega arith) (λ k h. absurd (not-suc-le-zero h)) (λ k l. o (suc k) (omega arith)))
sum_ones (suc free) (x ∷ us) (y ∷ ws) e f o =
    omega (arith, f 0 (omega arith), sum_ones free us ws (omega arith) (λ k h. f (suc k) (omega arith)) (λ k l. o (suc k) (omega arith)))

-- ---- a word that is there, whatever stands for one that isn't
pub there_any : (l : List ℕ) (i d e : ℕ) → i < length l → get_or l i d ≡ get_or l i e
there_any [] i d e h = absurd (not-suc-le-zero h)
there_any (x ∷ l) zero d e h = refl
there_any (x ∷ l) (suc i) d e h = there_any l i d e (le_of_suc-le-suc h)
