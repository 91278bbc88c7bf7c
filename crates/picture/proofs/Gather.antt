-- What stands at a tile's slots, in order, is the pieces of the references in that tile, in order. Assumes nothing.
use mathlib.Core.Path.{◌≡◌, refl, sym, ap, ◌∙◌}
use mathlib.Core.Bool.{cond}
use mathlib.Core.List.{List, [], ◌∷◌, ◌++◌}
use Prim.Native.Nat.{ℕ, zero, suc, ◌+◌, ◌<◌}
use native.Mathlib.Decide.{ℕ_discrete}
use native.Mathlib.Omega.{arith}
use lib.Dec.{eqb}
use lib.ListN.{length, get_or}
use lib.Ieee.{Float}
use borrow.Author.Tests.{eq-eqb, ne_eqb}
use Rattle.lists.specs.Sums.{from}
use Rattle.lists.specs.Occ.{is, is_same, is_other}
use Rattle.lists.specs.Tally.{pick_if, of_tile}
use Rattle.panel.specs.Segments.{segment_at}
use Rattle.panel.specs.declared.segments.Segment.{Segment}
use Rattle.theorems.specs.Events.{Event, tiles_ev}
use Rattle.theorems.proofs.SumLaws.{no_event}
use Rattle.picture.proofs.AtSlots.{read_from}

-- the pieces of those events that are in tile t, in order
abbrev pub gather : (Event → List Segment) → ℕ → List Event → List Segment
gather piece t [] = []
gather piece t (e ∷ es) = cond (eqb e.tile t) (piece e) [] ++ gather piece t es

module _ (segs : List Float) (place : ℕ → ℕ) (piece : Event → List Segment) where
  -- each event's piece is what stands at its slot: the first of its tile, and its slice number
  abbrev pub Stands : List Event → List ℕ → Type 0
  Stands [] ks = Unit {0}
  Stands (e ∷ es) [] = ⊥
  Stands (e ∷ es) (k ∷ ks) = (piece e ≡ segment_at segs (place e.tile + k) ∷ []) × Stands es ks

  read_at : ℕ → List ℕ → List Segment
  read_at f [] = []
  read_at f (k ∷ ks) = segment_at segs (f + k) ∷ read_at f ks

  read_from_lem : (f a n : ℕ) → read_at f (from a n) ≡ read_from segs (f + a) n
  unfolding read_at
  read_from_lem f a zero = refl
  read_from_lem f a (suc n) = let z : f + suc a ≡ suc (f + a) = omega arith in ap (λ (l : List Segment). segment_at segs (f + a) ∷ l) (read_from_lem f (suc a) n ∙ rw z)

  gathered : (t : ℕ) (es : List Event) (ks : List ℕ) → Stands es ks → read_at (place t) (of_tile t (tiles_ev es) ks) ≡ gather piece t es
  unfolding read_at
  gathered t [] ks s = refl
  gathered t (e ∷ es) [] s = absurd s
  gathered t (e ∷ es) (k ∷ ks) s = go (ℕ_discrete e.tile t) (gathered t es ks s.1)
    where
      go : Dec (e.tile ≡ t) → read_at (place t) (of_tile t (tiles_ev es) ks) ≡ gather piece t es
          → read_at (place t) (pick_if (is e.tile t) k (of_tile t (tiles_ev es) ks)) ≡ cond (eqb e.tile t) (piece e) [] ++ gather piece t es
      go (yes q) ih = rw (is_same e.tile t q, eq-eqb e.tile t q, s.0, q) (ap (λ (l : List Segment). segment_at segs (place t + k) ∷ l) ih)
      go (no q) ih = rw (is_other e.tile t q, ne_eqb e.tile t q) ih

  -- so for a tile whose slices are 0 up to its count less one
  pub slots_gathered : (t n : ℕ) (es : List Event) (ks : List ℕ) → Stands es ks → of_tile t (tiles_ev es) ks ≡ from 0 n
      → read_from segs (place t) n ≡ gather piece t es
  slots_gathered t n es ks s e =
      let z : place t + 0 ≡ place t = omega arith in
      sym (read_from_lem (place t) 0 n ∙ rw z) ∙ ap (read_at (place t)) (sym e) ∙ gathered t es ks s

  -- by places in the lists
  pub stands : (es : List Event) (ks : List ℕ) → length ks ≡ length es
      → ((i : ℕ) → i < length es → piece (get_or es i no_event) ≡ segment_at segs (place (get_or es i no_event).tile + get_or ks i 0) ∷ []) → Stands es ks
  stands [] ks e h = tt
  stands (x ∷ es) [] e h = omega arith
  stands (x ∷ es) (k ∷ ks) e h = (h 0 (omega arith), stands es ks (omega arith) (λ i q. h (suc i) (omega arith)))
