-- How often a number stands in a list, over the native numbers (mathlib's `count` counts in its own). Assumes nothing.
use Rattle.std.specs.Prelude.{◌≡◌, refl, ◌≢◌, Bool, true, false, List, [], ◌∷◌, ℕ, zero, suc, ◌+◌, ◌-◌, ◌<◌, eqb, T, length, get_or, take}
use Rattle.std.proofs.Common.{not-suc-le-zero, le_of_suc-le-suc, arith, eqb→eq}
use Rattle.std.proofs.Math.Decide.{ℕ_discrete}
use Rattle.std.proofs.Math.Dec.{eqb_refl}
use Rattle.lists.specs.Run.{All}

abbrev pub bit : Bool → ℕ
bit true = 1
bit false = 0

-- 1 where the two are equal, else 0. Shut, so that it stays as it is written in a goal
unfoldable pub is : ℕ → ℕ → ℕ
is x t = bit (eqb x t)

bit_t : (b : Bool) → T b → bit b ≡ 1
bit_t true h = refl
bit_t false h = absurd h

bit_not_t : (b : Bool) → ¬ T b → bit b ≡ 0
bit_not_t true h = absurd (h tt)
bit_not_t false h = refl

pub is_self : (t : ℕ) → is t t ≡ 1
unfolding is
is_self t = bit_t (eqb t t) (eqb_refl t)

pub is_same : (x t : ℕ) → x ≡ t → is x t ≡ 1
is_same x t e = rw e (is_self t)

pub is_other : (x t : ℕ) → x ≢ t → is x t ≡ 0
unfolding is
is_other x t h = bit_not_t (eqb x t) (λ b. h (eqb→eq x t b))

abbrev pub occ : ℕ → List ℕ → ℕ
occ t [] = 0
occ t (x ∷ xs) = is x t + occ t xs

-- t is none of them
pub occ_none : (t : ℕ) (l : List ℕ) → All (λ x. x ≢ t) l → occ t l ≡ 0
occ_none t [] h = refl
occ_none t (x ∷ l) h = omega (arith, is_other x t h.0, occ_none t l h.1)

-- of two places where t stands, the later has more before it
pub occ_take_lt : (t : ℕ) (l : List ℕ) (i j : ℕ) → i < j → i < length l → get_or l i 0 ≡ t → occ t (take i l) < occ t (take j l)
occ_take_lt t [] i j h k e = absurd (not-suc-le-zero k)
occ_take_lt t (x ∷ l) i zero h k e = absurd (not-suc-le-zero h)
occ_take_lt t (x ∷ l) zero (suc j) h k e = omega (arith, is_same x t e)
occ_take_lt t (x ∷ l) (suc i) (suc j) h k e = omega (arith, occ_take_lt t l i j (le_of_suc-le-suc h) (le_of_suc-le-suc k) e)

-- and no more than the whole list has, less one
pub occ_take_within : (t : ℕ) (l : List ℕ) (i : ℕ) → i < length l → get_or l i 0 ≡ t → occ t (take i l) < occ t l
occ_take_within t [] i k e = absurd (not-suc-le-zero k)
occ_take_within t (x ∷ l) zero k e = omega (arith, is_same x t e)
occ_take_within t (x ∷ l) (suc i) k e = omega (arith, occ_take_within t l i (le_of_suc-le-suc k) e)

-- the place of t that has n of its kind before it
pub record Nth (t : ℕ) (l : List ℕ) (n : ℕ) : Type 0 where
  pub at : ℕ
  pub inside : at < length l
  pub there : get_or l at 0 ≡ t
  pub before : occ t (take at l) ≡ n

pub nth : (t : ℕ) (l : List ℕ) (n : ℕ) → n < occ t l → Nth t l n
nth t [] n h = absurd (not-suc-le-zero h)
nth t (x ∷ l) n h = go (nth t l) (ℕ_discrete x t) n h
  where
    go : ((m : ℕ) → m < occ t l → Nth t l m) → Dec (x ≡ t) → (m : ℕ) → m < is x t + occ t l → Nth t (x ∷ l) m
    go ih (yes e) zero k = record { at = 0; inside = omega arith; there = e; before = refl }
    go ih (yes e) (suc m) k =
        let s : is x t ≡ 1 = is_same x t e in
        let w : Nth t l m = ih m (omega arith) in
        record { at = suc w.at; inside = omega arith; there = w.there; before = omega arith }
    go ih (no e) m k =
        let s : is x t ≡ 0 = is_other x t e in
        let w : Nth t l m = ih m (omega arith) in
        record { at = suc w.at; inside = omega arith; there = w.there; before = omega arith }
