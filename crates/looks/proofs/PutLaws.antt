-- What is put, for every input: its slot is among the slots, and a fill takes it: both its ends lie in the tile, and its y_edge is finite. Assumes nothing.
use Prim.Native.Nat.{ℕ, ◌+◌, ◌<◌}
use native.Mathlib.Omega.{arith}
use mathlib.Core.Path.{◌≡◌, refl}
use mathlib.Core.Bool.{Bool, true, false, cond}
use mathlib.Core.List.{List}
use lib.Dec.{ltb}
use lib.ListN.{get_or}
use borrow.Author.Tests.{ltb-false}
use Rattle.panel.specs.Slots.{skips, slot_of}
use Rattle.panel.specs.Refusals.{no_room_word}
use Rattle.panel.specs.declared.kinds.SlotNo.{SlotNo}
use Rattle.walk.specs.Step.{step_of}
use Rattle.walk.specs.declared.kinds.Walk.{Walk}
use Rattle.walk.specs.Stepped.{Step}
use Rattle.walk.specs.Stepped as On
use Rattle.walk.specs.Walked.{Walked}
use Rattle.walk.specs.Walked as Found
use Rattle.panel.specs.Segments.{Straight}
use Rattle.segment.specs.Clips.{piece_of}
use Rattle.panel.specs.declared.segments.Segment.{Segment}
use Rattle.segment.specs.Piece.{Piece}
use Rattle.segment.specs.Piece.{Kept, Crooked}
use Rattle.segment.proofs.Within.{kept_straight}
use Rattle.looks.specs.Look.{step_no, slice_no, piece_to, word_to, step_to, found_to}
use Rattle.looks.specs.Looked.{Put, Empty, Against}

-- what is known of a segment that is put at a slot
pub record Good (slots slot : ℕ) (s : Segment) : Type 0 where
  pub among : slot < slots
  pub straight : Straight s

module _ {slot : SlotNo} {s : Segment} where
  piece_put : (n : ℕ) (p : Piece) → piece_to n p ≡ Put slot s → (n ≡ slot.0) × (p ≡ Kept s)
  unfolding piece_to
  piece_put n (Kept r) e = (cc, cc)
  piece_put n Crooked e = let z : ◌≡◌ {A = ℕ} 0 1 = cc in absurd (omega arith)

  word_put : (slots word slice : ℕ) (p : Piece) → word_to slots word slice p ≡ Put slot s → (slot.0 < slots) × (p ≡ Kept s)
  unfolding word_to
  word_put slots word slice p e = go (skips word) (ltb slots (slot_of word slice + 1)) refl e
    where
      go : (t u : Bool) → ltb slots (slot_of word slice + 1) ≡ u
          → cond t Empty (cond u (Against no_room_word) (piece_to (slot_of word slice) p)) ≡ Put slot s → (slot.0 < slots) × (p ≡ Kept s)
      go true u q h = let z : ◌≡◌ {A = ℕ} 0 1 = cc in absurd (omega arith)
      go false true q h = let z : ◌≡◌ {A = ℕ} 0 1 = cc in absurd (omega arith)
      go false false q h =
          let k = piece_put (slot_of word slice) p h in
          (omega (arith, ltb-false slots (slot_of word slice + 1) q, k.0), k.1)

  step_put : (xs : List ℕ) (slots : ℕ) (w : Walk) (i slice : ℕ) (on : Step) → step_to xs slots w i slice on ≡ Put slot s → Good slots slot.0 s
  unfolding step_to
  step_put xs slots w i slice (On.Tile t x y z) e =
      let k = word_put slots (get_or xs t.0 0) slice (piece_of w i z x y) e in
      record { among = k.0; straight = kept_straight w i z x y s k.1 }
  step_put xs slots w i slice On.Refused e = let z : ◌≡◌ {A = ℕ} 0 1 = cc in absurd (omega arith)

  pub put_good : (xs : List ℕ) (slots packed : ℕ) (f : Walked) → found_to xs slots packed f ≡ Put slot s → Good slots slot.0 s
  unfolding found_to
  put_good xs slots packed (Found.Line w p) e =
      step_put xs slots w (step_no packed) (slice_no packed) (step_of w.pace p (step_no packed)) e
  put_good xs slots packed Found.Skipped e = let z : ◌≡◌ {A = ℕ} 0 1 = cc in absurd (omega arith)
  put_good xs slots packed (Found.Refused why) e = let z : ◌≡◌ {A = ℕ} 0 1 = cc in absurd (omega arith)
