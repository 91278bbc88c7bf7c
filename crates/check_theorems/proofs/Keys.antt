-- Keys: numbers below m, no two the same, and as many as there are: each stands among them. Assumes nothing.
use mathlib.Core.Path.{◌≡◌, refl, ◌∙◌}
use mathlib.Core.Logic.{◌≢◌}
use mathlib.Core.List.{map}
use Prim.Native.Nat.{ℕ, zero, suc, ◌+◌, ◌≤◌, ◌<◌}
use native.Mathlib.Decide.{ℕ_discrete}
use native.Mathlib.Omega.{arith}
use lib.ListN.{length, length-map}
use Rattle.lists.specs.Run.{All}
use Rattle.lists.specs.Sums.{from, length_from}
use Rattle.lists.specs.Occ.{occ, is_other}
use Rattle.lists.specs.Tally.{Below, Distinct}
use Rattle.entries.proofs.AllThere.{all_there, no_more}

module _ (key : ℕ → ℕ) where
  keys_below : (m a n : ℕ) → ((j : ℕ) → a ≤ j → j < a + n → key j < m) → Below m (map key (from a n))
  keys_below m a zero f = tt
  keys_below m a (suc n) f = (f a (omega arith) (omega arith), keys_below m (suc a) n (λ j p q. f j (omega arith) (omega arith)))

  keys_new : (k a n : ℕ) → ((j : ℕ) → a ≤ j → j < a + n → key j ≢ k) → All (λ u. u ≢ k) (map key (from a n))
  keys_new k a zero f = tt
  keys_new k a (suc n) f = (f a (omega arith) (omega arith), keys_new k (suc a) n (λ j p q. f j (omega arith) (omega arith)))

  pub keys_apart : (a n : ℕ) → ((i j : ℕ) → i < j → j < a + n → key j ≢ key i) → Distinct (map key (from a n))
  keys_apart a zero f = tt
  keys_apart a (suc n) f = (keys_new (key a) (suc a) n (λ j p q. f a j (omega arith) (omega arith)), keys_apart (suc a) n (λ i j p q. f i j p (omega arith)))

  pub record KeyAt (a n k : ℕ) : Type 0 where
    pub place : ℕ
    pub low : a ≤ place
    pub high : place < a + n
    pub key_is : key place ≡ k

  -- a key that stands among them has a place
  key_found : (a n k : ℕ) → (occ k (map key (from a n)) ≡ 0 → ⊥) → KeyAt a n k
  key_found a zero k h = absurd (h refl)
  key_found a (suc n) k h = go (ℕ_discrete (key a) k) (key_found (suc a) n k)
    where
      go : Dec (key a ≡ k) → ((occ k (map key (from (suc a) n)) ≡ 0 → ⊥) → KeyAt (suc a) n k) → KeyAt a (suc n) k
      go (yes e) ih = record { place = a; low = omega arith; high = omega arith; key_is = e }
      go (no e) ih =
          let w = ih (λ q. h (omega (arith, is_other (key a) k e))) in
          record { place = w.place; low = omega (arith, w.low); high = omega (arith, w.high); key_is = w.key_is }

  module _ (m n : ℕ) (small : (j : ℕ) → j < n → key j < m) (apart : (i j : ℕ) → i < j → j < n → key j ≢ key i) where
    below : Below m (map key (from 0 n))
    below = keys_below m 0 n (λ j p q. small j (omega arith))

    distinct : Distinct (map key (from 0 n))
    distinct = keys_apart 0 n (λ i j p q. apart i j p (omega arith))

    many : length (map key (from 0 n)) ≡ n
    many = length-map (from 0 n) key ∙ length_from 0 n

    pub few_keys : n ≤ m
    few_keys = omega (arith, no_more m (map key (from 0 n)) below distinct, many)

    pub every_key : m ≤ n → (k : ℕ) → k < m → KeyAt 0 n k
    every_key h k q =
        key_found 0 n k (λ e. let one = all_there m (map key (from 0 n)) below distinct (omega (arith, many)) k q in omega arith)
