-- The slot of each reference, from zeroed tiles: its tile's first slot and its slice number. Each slot below the number of references is the
-- slot of one reference, and that is one of the tile whose range has the slot. Assumes nothing.
use mathlib.Core.Path.{◌≡◌, refl, sym, ap, ◌∙◌}
use mathlib.Core.Logic.{◌≢◌}
use mathlib.Core.List.{List, map}
use Prim.Native.Nat.{ℕ, zero, suc, ◌+◌, ◌-◌, ◌≤◌, ◌<◌}
use native.Mathlib.Decide.{dec_lt}
use native.Mathlib.Omega.{arith}
use lib.ListN.{length, get_or, take, length-replicate}
use Rattle.lists.specs.Run.{All}
use Rattle.lists.specs.Sums.{first, first_within, Placed, placed, placed_once, from}
use Rattle.lists.specs.Occ.{occ, occ_take_lt, occ_take_within, Nth, nth}
use Rattle.lists.specs.Tally.{zeros, Below, below_at, length_tally, count_is_occ, count_sum, slice_is_occ, Distinct}
use Rattle.lists.specs.Cells.{once}
use Rattle.theorems.specs.Events.{counts_of, slice_of, slot_of}

-- the reference that has slot k
pub record Writer (n : ℕ) (ts : List ℕ) (k : ℕ) : Type 0 where
  pub at : ℕ
  pub inside : at < length ts
  pub slot : slot_of n ts at ≡ k

module _ (n : ℕ) (ts : List ℕ) (b : Below n ts) where
  -- a slice number is below its tile's count
  pub slice_below : (i : ℕ) → i < length ts → slice_of n ts i < get_or (counts_of n ts) (get_or ts i 0) 0
  slice_below i h =
      let t : get_or ts i 0 < n = below_at n ts i b h in
      omega (arith, slice_is_occ n ts i h t, count_is_occ n ts (get_or ts i 0) t, occ_take_within (get_or ts i 0) ts i h refl)

  -- T4. within the slots handed out
  pub slot_within : (i : ℕ) → i < length ts → slot_of n ts i < length ts
  slot_within i h = omega (arith, slice_below i h, first_within (counts_of n ts) (get_or ts i 0), count_sum n ts b)

  -- T4. the slot lies in its tile's range, and in no other's
  pub slot_tile : (i t : ℕ) → i < length ts → first (counts_of n ts) t ≤ slot_of n ts i
      → slot_of n ts i < first (counts_of n ts) t + get_or (counts_of n ts) t 0 → get_or ts i 0 ≡ t
  slot_tile i t h lo hi =
      let s = slice_below i h in
      placed_once (counts_of n ts) (slot_of n ts i) (get_or ts i 0) t (omega arith) (omega arith) lo hi

  -- T4. no two references have one slot
  pub slot_injective : (i j : ℕ) → i < length ts → j < length ts → slot_of n ts i ≡ slot_of n ts j → i ≡ j
  slot_injective i j h k e = go (dec_lt i j) (dec_lt j i)
    where
      -- the tile is the same, so the slice number is, so as many of the tile stand before
      tile : get_or ts i 0 ≡ get_or ts j 0
      tile =
          let s = slice_below j k in
          slot_tile i (get_or ts j 0) h (omega arith) (omega arith)

      slice : occ (get_or ts i 0) (take i ts) ≡ occ (get_or ts i 0) (take j ts)
      slice =
          omega (
            arith,
            slice_is_occ n ts i h (below_at n ts i b h),
            slice_is_occ n ts j k (below_at n ts j b k),
            ap (first (counts_of n ts)) tile,
            ap (λ (t : ℕ). occ t (take j ts)) tile,
          )

      go : Dec (i < j) → Dec (j < i) → i ≡ j
      go (yes p) q = absurd (omega (arith, slice, occ_take_lt (get_or ts i 0) ts i j p h refl))
      go (no p) (yes q) = absurd (omega (arith, slice, occ_take_lt (get_or ts i 0) ts j i q k (sym tile)))
      go (no p) (no q) = omega arith

  -- T4. every slot has a reference
  pub slot_onto : (k : ℕ) → k < length ts → Writer n ts k
  slot_onto k h =
      go (placed (counts_of n ts) k (omega (arith, count_sum n ts b)))
    where
      -- reference i of tile t, with k less t's first slot of t's references before it
      found : (t : ℕ) → first (counts_of n ts) t ≤ k → Nth t ts (k - first (counts_of n ts) t) → Writer n ts k
      found t lo w =
          let e : get_or ts w.at 0 ≡ t = w.there in
          record {
            at = w.at;
            inside = w.inside;
            slot =
                omega (
                  arith,
                  slice_is_occ n ts w.at w.inside (below_at n ts w.at b w.inside),
                  ap (first (counts_of n ts)) e,
                  ap (λ (u : ℕ). occ u (take w.at ts)) e,
                );
          }

      go : Placed (counts_of n ts) k → Writer n ts k
      go p =
          let c : length (counts_of n ts) ≡ n = length_tally (zeros n) ts ∙ length-replicate n 0 in
          let t : p.place < n = omega arith in
          found p.place p.low (nth p.place ts (k - first (counts_of n ts) p.place) (omega (arith, count_is_occ n ts p.place t)))

  -- each slot below the number of references is there once among the slots of all references
  pub slots_once : (k : ℕ) → k < length ts → occ k (map (slot_of n ts) (from 0 (length ts))) ≡ 1
  slots_once k h = go (slot_onto k h)
    where
      go : Writer n ts k → occ k (map (slot_of n ts) (from 0 (length ts))) ≡ 1
      go w =
          rw (← w.slot)
          (once (slot_of n ts) 0 (length ts) (λ i j p q e. slot_injective i j (omega arith) (omega arith) e) w.at (omega arith) (omega arith))

  slot_new : (k a j : ℕ) → k < a → a + j ≤ length ts → All (λ u. u ≢ slot_of n ts k) (map (slot_of n ts) (from a j))
  slot_new k a zero p q = tt
  slot_new k a (suc j) p q =
      ((λ e. let x : a ≡ k = slot_injective a k (omega arith) (omega arith) e in omega arith), slot_new k (suc a) j (omega arith) (omega arith))

  -- and of some of them, no two are one
  pub slots_differ : (a j : ℕ) → a + j ≤ length ts → Distinct (map (slot_of n ts) (from a j))
  slots_differ a zero q = tt
  slots_differ a (suc j) q = (slot_new a (suc a) j (omega arith) (omega arith), slots_differ (suc a) j (omega arith))
