-- After lines are counted into zeroed tiles, their slots handed out and all references tiled, none refused: what stands at a tile's slots is the pieces of
-- its own path's lines there, in order. Assumes nothing.
use mathlib.Core.Path.{◌≡◌, refl, sym, ap, subst, ◌∙◌}
use mathlib.Core.Bool.{Bool, true, false, cond}
use mathlib.Core.List.{List, [], ◌∷◌}
use Prim.Native.Nat.{ℕ, zero, suc, ◌+◌, ◌-◌, ◌≤◌, ◌<◌}
use native.Mathlib.Decide.{ℕ_discrete}
use native.Mathlib.Omega.{arith}
use lib.Dec.{ltb}
use lib.ListN.{length, get_or}
use lib.IntN.{ℤ}
use lib.Ieee.{Float}
use Rattle.lists.specs.Run.{All}
use Rattle.lists.specs.Sums.{first, from}
use Rattle.lists.specs.Tally.{zeros, slices, length_slices, slices_are_from}
use Rattle.panel.specs.Refusals.{no_such, no_room_word}
use Rattle.panel.specs.Paths.{path_at, path_count, tile_of}
use Rattle.panel.specs.Slots.{skips, slot_of as word_slot}
use Rattle.panel.specs.Segments.{segment_at}
use Rattle.panel.specs.declared.kinds.SlotNo.{SlotNo}
use Rattle.panel.specs.Answer.{Done}
use Rattle.panel.specs.declared.segments.Segment.{Segment}
use Rattle.panel.proofs.PathLaws.{InBox, own_tile, checked}
use Rattle.walk.specs.Step.{step_of}
use Rattle.walk.specs.Lent.{walk_at}
use Rattle.walk.specs.declared.kinds.Walk.{Walk}
use Rattle.walk.specs.Walked.{Walked}
use Rattle.walk.specs.Walked as Found
use Rattle.walk.specs.Stepped as On
use Rattle.segment.specs.Clips.{piece_of}
use Rattle.segment.specs.Piece.{Piece, Kept, Crooked}
use Rattle.hand_out.specs.HandOut.{hand}
use Rattle.looks.specs.Look.{Lent, lent, line_at, packed_at, step_no, slice_no, piece_to, word_to, step_to, found_to, found_of, look_of}
use Rattle.path_tiling.specs.Tiling.{Write, write_of, look_then_word, range_of}
use Rattle.looks.specs.Looked.{Look, Put, Empty, Against}
use Rattle.theorems.specs.Drawn.{drawn}
use Rattle.theorems.specs.Events.{Event, tiles_ev, slot_of}
use Rattle.theorems.specs.Refs.{AllCounted}
use Rattle.theorems.proofs.Counting.{length_tiles}
use Rattle.theorems.proofs.StrayLaws.{PutAt, look_put}
use Rattle.theorems.proofs.SumLaws.{passed, events, whole, Whole, ref_line, ref_step, event_tile, event_at}
use Rattle.picture.specs.Picture.{kept_in, pieces_of}
use Rattle.picture.proofs.AtSlots.{read_from}
use Rattle.picture.proofs.Gather.{gather, stands, slots_gathered}
use Rattle.picture.proofs.OwnPieces.{step_kept_word, walk_piece, event_piece, own_pieces}

-- ---- a reference that is put has its step's piece

no_put : {A : Type 0} (why : ℕ) (slot : SlotNo) (s : Segment) → Against why ≡ Put slot s → A
no_put why slot s e = let z : ◌≡◌ {A = ℕ} 0 1 = cc in absurd (omega arith)

word_kept : (slots word slice : ℕ) (p : Piece) (slot : SlotNo) (s : Segment) → word_to slots word slice p ≡ Put slot s → kept_in p ≡ s ∷ []
unfolding word_to piece_to
word_kept slots word slice p slot s e = go (skips word) (ltb slots (word_slot word slice + 1)) p e
  where
    go : (a c : Bool) (q : Piece) → cond a Empty (cond c (Against no_room_word) (piece_to (word_slot word slice) q)) ≡ Put slot s → kept_in q ≡ s ∷ []
    go true c q h = let z : ◌≡◌ {A = ℕ} 0 1 = cc in absurd (omega arith)
    go false true q h = no_put no_room_word slot s h
    go false false (Kept r) h = let z : r ≡ s = cc in rw z
    go false false Crooked h = no_put _ slot s h

step_kept : (stored : List ℕ) (slots : ℕ) (w : Walk) (i slice : ℕ) (slot : SlotNo) (s : Segment) (f : On.Step) → step_to stored slots w i slice f ≡ Put slot s
    → step_kept_word w i f ≡ s ∷ []
unfolding step_to
step_kept stored slots w i slice slot s (On.Tile t x y z) e = word_kept slots (get_or stored t.0 0) slice (piece_of w i z x y) slot s e
step_kept stored slots w i slice slot s On.Refused e = no_put _ slot s e

found_kept : (stored : List ℕ) (slots packed : ℕ) (slot : SlotNo) (s : Segment) (f : Walked) → found_to stored slots packed f ≡ Put slot s
    → walk_piece f (step_no packed) ≡ s ∷ []
unfolding found_to
found_kept stored slots packed slot s (Found.Line w b) e = step_kept stored slots w (step_no packed) (slice_no packed) slot s (step_of w.pace b (step_no packed)) e
found_kept stored slots packed slot s Found.Skipped e = no_put _ slot s e
found_kept stored slots packed slot s (Found.Refused why) e = no_put why slot s e

refused_kept : {A : Type 0} (stored : List ℕ) (slots packed why : ℕ) (slot : SlotNo) (s : Segment) → found_to stored slots packed (Found.Refused why) ≡ Put slot s → A
unfolding found_to
refused_kept stored slots packed why slot s e = no_put why slot s e

look_kept : (nos : List ℕ) (coords : List Float) (paths stored rs : List ℕ) (slots i : ℕ) (slot : SlotNo) (s : Segment)
    → look_of (lent nos coords paths stored rs) slots i ≡ Put slot s → walk_piece (walk_at nos coords paths (line_at rs i)) (step_no (packed_at rs i)) ≡ s ∷ []
unfolding look_of found_of
look_kept nos coords paths stored rs slots i slot s e = go (ltb (line_at rs i) (length nos)) e
  where
    go : (c : Bool) → found_to stored slots (packed_at rs i) (cond c (walk_at nos coords paths (line_at rs i)) (Found.Refused no_such)) ≡ Put slot s
        → walk_piece (walk_at nos coords paths (line_at rs i)) (step_no (packed_at rs i)) ≡ s ∷ []
    go true h = found_kept stored slots (packed_at rs i) slot s (walk_at nos coords paths (line_at rs i)) h
    go false h = refused_kept stored slots (packed_at rs i) no_such slot s h

-- ---- a range that was done: each of its references that is put is among its writes, and none is refused

module _ (L : Lent) (slots : ℕ) (P : Write → Type 0) where
  pub put_in : (n k : ℕ) → (range_of L slots n k).answer ≡ Done → All P (range_of L slots n k).writes → (i : ℕ) → k ≤ i → i < k + n
      → (slot : SlotNo) (s : Segment) → look_of L slots i ≡ Put slot s → P (write_of L i slot.0 s)
  unfolding range_of
  put_in zero k d a i lo hi slot s e = absurd (omega arith)
  put_in (suc n) k d a i lo hi slot s e = go (look_of L slots k) refl (ℕ_discrete k i) d a (λ d' a' l. put_in n (suc k) d' a' i l (omega arith) slot s e)
    where
      go : (l : Look) → look_of L slots k ≡ l → Dec (k ≡ i) → (look_then_word L k l (range_of L slots n (suc k))).answer ≡ Done → All P (look_then_word L k l (range_of L slots n (suc k))).writes
          → ((range_of L slots n (suc k)).answer ≡ Done → All P (range_of L slots n (suc k)).writes → suc k ≤ i → P (write_of L i slot.0 s)) → P (write_of L i slot.0 s)
      go (Put u v) f (yes w) d' a' ih =
          let g : Put u v ≡ Put slot s = sym f ∙ ap (look_of L slots) w ∙ e in
          let same_slot : u.0 ≡ slot.0 = cc in
          let same_seg : v ≡ s = cc in
          let same : write_of L k u.0 v ≡ write_of L i slot.0 s = rw (w, same_slot, same_seg) in
          subst P same a'.0
      go (Put u v) f (no w) d' a' ih = ih d' a'.1 (omega (arith, w))
      go Empty f (yes w) d' a' ih =
          let g : Empty ≡ Put slot s = sym f ∙ ap (look_of L slots) w ∙ e in
          let z : ◌≡◌ {A = ℕ} 0 1 = cc in absurd (omega arith)
      go Empty f (no w) d' a' ih = ih d' a' (omega (arith, w))
      go (Against why) f w d' a' ih = let z : ◌≡◌ {A = ℕ} 0 1 = cc in absurd (omega arith)

pub none_against : (L : Lent) (slots n k : ℕ) → (range_of L slots n k).answer ≡ Done → (i : ℕ) → k ≤ i → i < k + n → (why : ℕ) → look_of L slots i ≡ Against why → ⊥
unfolding range_of
none_against L slots zero k d i lo hi why e = omega arith
none_against L slots (suc n) k d i lo hi why e = go (look_of L slots k) refl (ℕ_discrete k i) d (λ d' l. none_against L slots n (suc k) d' i l (omega arith) why e)
  where
    go : (l : Look) → look_of L slots k ≡ l → Dec (k ≡ i) → (look_then_word L k l (range_of L slots n (suc k))).answer ≡ Done
        → ((range_of L slots n (suc k)).answer ≡ Done → suc k ≤ i → ⊥) → ⊥
    go (Put u v) f (yes w) d' ih =
        let g : Put u v ≡ Against why = sym f ∙ ap (look_of L slots) w ∙ e in
        let z : ◌≡◌ {A = ℕ} 0 1 = cc in omega arith
    go (Put u v) f (no w) d' ih = ih d' (omega (arith, w))
    go Empty f (yes w) d' ih =
        let g : Empty ≡ Against why = sym f ∙ ap (look_of L slots) w ∙ e in
        let z : ◌≡◌ {A = ℕ} 0 1 = cc in omega arith
    go Empty f (no w) d' ih = ih d' (omega (arith, w))
    go (Against m) f w d' ih = let z : ◌≡◌ {A = ℕ} 0 1 = cc in omega arith

-- ---- the m references that counting made

module _ (b : ℕ) (nos : List ℕ) (coords : List Float) (paths : List ℕ) (n : ℕ) (refs : List ℕ) (bs : List ℤ) (cs rs : List ℕ) (m : ℕ)
    (all : AllCounted b nos coords paths n refs bs cs rs m) (slots : ℕ)
    (tiled : (range_of (lent nos coords paths (hand 0 cs) rs) slots (m - 0) 0).answer ≡ Done) (after : List Float)
    (kept : All (λ w. segment_at after w.slot ≡ w.segment) (range_of (lent nos coords paths (hand 0 cs) rs) slots (m - 0) 0).writes) where
  es : List Event
  es = events b nos coords paths n refs bs cs rs m all

  h : Whole b nos coords paths n refs bs cs rs m all es
  unfolding es
  h = whole b nos coords paths n refs bs cs rs m all

  abbrev L₀ : Lent
  L₀ = lent nos coords paths (hand 0 cs) rs

  -- each stands at its slot
  piece_at : (i : ℕ) → i < m → event_piece nos coords paths (event_at es i) ≡ segment_at after (slot_of n (tiles_ev es) i) ∷ []
  piece_at i q = go (look_of L₀ slots i) refl (look_put b nos coords paths n refs bs cs rs m all es h slots i q)
    where
      go : (l : Look) → look_of L₀ slots i ≡ l → PutAt (slot_of n (tiles_ev es) i) l → event_piece nos coords paths (event_at es i) ≡ segment_at after (slot_of n (tiles_ev es) i) ∷ []
      go (Put slot s) e at =
          let w = look_kept nos coords paths (hand 0 cs) rs slots i slot s e in
          let k : segment_at after slot.0 ≡ s = put_in L₀ slots (λ w. segment_at after w.slot ≡ w.segment) (m - 0) 0 tiled kept i (omega arith) (omega arith) slot s e in
          let line = ref_line b nos coords paths n refs bs cs rs m all es h i q in
          let step = ref_step b nos coords paths n refs bs cs rs m all es h i q in
          let seen : event_piece nos coords paths (event_at es i) ≡ s ∷ [] = rw (line, step) at w in
          seen ∙ ap (λ (r : Segment). r ∷ []) (sym k ∙ ap (segment_at after) at)
      go Empty e at = absurd at
      go (Against why) e at = absurd (none_against L₀ slots (m - 0) 0 tiled i (omega arith) (omega arith) why e)

  slots_read : (t : ℕ) → t < n → read_from after (first cs t) (get_or cs t 0) ≡ gather (event_piece nos coords paths) t es
  slots_read t q =
      let ts = tiles_ev es in
      let ks = slices (zeros n) (tiles_ev es) in
      let long : length ks ≡ length es = length_slices (zeros n) (tiles_ev es) ∙ length_tiles es in
      slots_gathered after (first cs) (event_piece nos coords paths) t (get_or cs t 0) es ks
      (stands after (first cs) (event_piece nos coords paths) es ks long
      (λ i k. let im : i < m = omega (arith, k, h.made) in
      piece_at i im
      ∙ ap (λ (x : ℕ). segment_at after x ∷ [])
      (ap (λ (c : List ℕ). first c (get_or (tiles_ev es) i 0) + get_or ks i 0) (sym h.counts)
      ∙ ap (λ (u : ℕ). first cs u + get_or ks i 0) (event_tile b nos coords paths n refs bs cs rs m all es h i im))))
      (slices_are_from n ts t q ∙ ap (λ (c : List ℕ). from 0 (get_or c t 0)) (sym h.counts))

  -- a tile of path p's box
  module _ (p x y : ℕ) (there : p < path_count paths) (in_box_lem : InBox (path_at paths p) x y) where
    tile_low : tile_of (path_at paths p) x y < n
    tile_low =
        let f = (checked paths n (passed b nos coords paths n refs bs cs rs m all)).fits p there in
        omega (arith, (own_tile (path_at paths p) x y in_box_lem).1, f.within)

    pub pieces_read : read_from after (first cs (tile_of (path_at paths p) x y)) (get_or cs (tile_of (path_at paths p) x y) 0) ≡ pieces_of paths p x y (drawn nos coords b)
    unfolding es events
    pieces_read =
        slots_read (tile_of (path_at paths p) x y) tile_low
        ∙ own_pieces nos coords paths n (passed b nos coords paths n refs bs cs rs m all) p x y there in_box_lem b
