-- Cells that are written one by one: what a run of stores leaves, and how often slots are written of which no two are the same. Assumes nothing.
use Rattle.std.specs.Prelude.{◌≡◌, refl, ◌≢◌, List, [], ◌∷◌, ◌++◌, map, ℕ, zero, suc, ◌+◌, ◌-◌, ◌≤◌, ◌<◌, length, get_or, set}
use Rattle.std.proofs.Common.{ap, ◌∙◌, not-suc-le-zero, add-zero, arith, length-set, get_or-set_same, get_or-set_other}
use Rattle.std.proofs.Math.Decide.{ℕ_discrete}
use Rattle.std.proofs.lemmas.List.Edits.{sets}
use Rattle.lists.specs.Sums.{from}
use Rattle.lists.specs.Occ.{is, occ, is_same, is_other}

-- ---- a run of stores

module _ {B : Type 0} where
  pub get_d_sets_after : (vs l : List B) (i j : ℕ) (d : B) → i + length vs ≤ j → get_or (sets l i vs) j d ≡ get_or l j d
  get_d_sets_after [] l i j d k = refl
  get_d_sets_after (v ∷ vs) l i j d k = get_d_sets_after vs (set l i v) (suc i) j d (omega arith) ∙ get_or-set_other l i j v d (omega arith)

  pub get_d_sets_before : (vs l : List B) (i j : ℕ) (d : B) → j < i → get_or (sets l i vs) j d ≡ get_or l j d
  get_d_sets_before [] l i j d h = refl
  get_d_sets_before (v ∷ vs) l i j d h = get_d_sets_before vs (set l i v) (suc i) j d (omega arith) ∙ get_or-set_other l i j v d (omega arith)

  pub get_d_sets_in : (vs l : List B) (i j : ℕ) (d : B) → j < length vs → i + length vs ≤ length l → get_or (sets l i vs) (i + j) d ≡ get_or vs j d
  get_d_sets_in [] l i j d h k = absurd (not-suc-le-zero h)
  get_d_sets_in (v ∷ vs) l i zero d h k =
      rw add-zero (get_d_sets_before vs (set l i v) (suc i) i d (omega arith) ∙ get_or-set_same l i v d (omega arith))
  get_d_sets_in (v ∷ vs) l i (suc j) d h k =
      let shift : i + suc j ≡ suc i + j = omega arith in
      rw shift (get_d_sets_in vs (set l i v) (suc i) j d (omega arith) (rw length-set (omega arith)))

  -- one run after another
  pub sets_append : (vs ws l : List B) (i : ℕ) → sets l i (vs ++ ws) ≡ sets (sets l i vs) (i + length vs) ws
  sets_append [] ws l i = ap (λ (k : ℕ). sets l k ws) (omega arith)
  sets_append (v ∷ vs) ws l i =
      sets_append vs ws (set l i v) (suc i) ∙ ap (λ (k : ℕ). sets (sets (set l i v) (suc i) vs) k ws) (omega arith)

-- T4. Numbers whose slots all differ write each slot once; a slot of none of them is not written.
module _ (slot : ℕ → ℕ) where
  pub never : (k a n : ℕ) → ((i : ℕ) → a ≤ i → i < a + n → slot i ≢ k) → occ k (map slot (from a n)) ≡ 0
  never k a zero f = refl
  never k a (suc n) f =
      omega (arith, is_other (slot a) k (f a (omega arith) (omega arith)), never k (suc a) n (λ i p q. f i (omega arith) (omega arith)))

  pub once : (a n : ℕ) → ((i j : ℕ) → i < a + n → j < a + n → slot i ≡ slot j → i ≡ j) → (i : ℕ) → a ≤ i → i < a + n
      → occ (slot i) (map slot (from a n)) ≡ 1
  once a zero inj i p q = absurd (omega arith)
  once a (suc n) inj i p q = go (ℕ_discrete a i) (once (suc a) n (λ j k u w. inj j k (omega arith) (omega arith)) i)
    where
      go : Dec (a ≡ i) → (suc a ≤ i → i < suc a + n → occ (slot i) (map slot (from (suc a) n)) ≡ 1)
          → is (slot a) (slot i) + occ (slot i) (map slot (from (suc a) n)) ≡ 1
      go (yes e) ih =
          omega (
            arith,
            is_same (slot a) (slot i) (ap slot e),
            never (slot i) (suc a) n (λ j u w x. let y : j ≡ i = inj j i (omega arith) (omega arith) x in omega arith),
          )
      go (no e) ih =
          omega (arith, is_other (slot a) (slot i) (λ x. e (inj a i (omega arith) (omega arith) x)), ih (omega arith) (omega arith))
