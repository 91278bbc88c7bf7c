-- No stray piece over another's tables, after a yes. Assumes nothing.
use mathlib.Core.Path.{◌≡◌, refl, sym, ap, subst, ◌∙◌}
use mathlib.Core.Logic.{◌⊎◌, inl, inr, ⊎_elim}
use mathlib.Core.Bool.{Bool, true, false, cond}
use mathlib.Core.List.{List, [], ◌∷◌, map}
use Prim.Native.Nat.{ℕ, zero, suc, ◌+◌, ◌-◌, ◌≤◌, ◌<◌, min}
use native.Mathlib.Omega.{arith}
use lib.Dec.{ltb}
use lib.ListN.{length, get_or}
use lib.Ieee.{Float}
use lib.IntN.{ℤ}
use borrow.Author.Tests.{lt-ltb, le-ltb, ltb-true}
use Rattle.lists.specs.Run.{All}
use Rattle.lists.specs.Sums.{from}
use Rattle.lists.specs.Cells.{once}
use Rattle.panel.specs.Limits.{most_slots}
use Rattle.panel.specs.Refusals.{no_room_word, crooked}
use Rattle.panel.specs.Kinds.{slot_no_of}
use Rattle.panel.specs.Refs.{line_at, packed_at, step_no, slice_no}
use Rattle.panel.specs.Slots.{not32, skips, handed_from}
use Rattle.panel.specs.Paths.{path_at, end_of}
use Rattle.panel.specs.declared.kinds.Path.{Path}
use Rattle.panel.specs.declared.kinds.TileNo.{TileNo}
use Rattle.panel.specs.Answer.{Done, Refused}
use Rattle.panel.proofs.LimitLaws.{small}
use Rattle.walk.specs.Step.{step_of}
use Rattle.walk.specs.Lent.{walk_at}
use Rattle.walk.specs.declared.kinds.Walk.{Walk}
use Rattle.walk.specs.Stepped as On
use Rattle.walk.specs.Walked.{Walked}
use Rattle.walk.specs.Walked as Found
use Rattle.segment.specs.Clips.{piece_of}
use Rattle.segment.specs.Piece.{Piece, Kept, Crooked}
use Rattle.entries.specs.Entries.{first_slot}
use Rattle.looks.specs.Look.{Lent, lent, piece_to, word_to, step_to, found_to, found_of, look_of}
use Rattle.path_tiling.specs.Tiling.{Write, Range, look_then_word, range_of}
use Rattle.path_tiling.specs.Tiling as Tiling
use Rattle.looks.specs.Looked.{Look, Put, Empty, Against}
use Rattle.looks.proofs.PutLaws.{Good}
use Rattle.path_tiling.proofs.WriteLaws.{range_made, range_good}
use Rattle.made.specs.Made.{made_of}
use Rattle.made.specs.MadeAt.{Made}
use Rattle.tile_check.specs.Faults.{ref_count, step_at, slice_at}
use Rattle.theorems.specs.Events.{EventOwn}
use Rattle.theorems.specs.Stray.{written_to, written_from}
use Rattle.theorems.proofs.SumLaws.{no_event, all_at}
use Rattle.check_theorems.specs.Good.{RefMade, SlotOf, AsGood}
use Rattle.check_theorems.specs.Stray.{OwnPiece, NoStray}
use Rattle.check_theorems.proofs.Steps.{event}
use Rattle.check_theorems.proofs.Lines.{LineGoes, all_events, line_start, made_there, made_event}
use Rattle.check_theorems.proofs.Ours.{goes, all_own}
use Rattle.check_theorems.proofs.Keys.{keys_apart}
use Rattle.check_theorems.proofs.Sound.{tile_of}

-- ---- what a reference comes to, where its tile's word names a slot: that slot, or one of two refusals

abbrev PutAt : (slots k : ℕ) → Look → Type 0
PutAt slots k (Put slot s) = slot.0 ≡ k
PutAt slots k Empty = ⊥
PutAt slots k (Against why) = (why ≡ crooked) ⊎ ((why ≡ no_room_word) × (slots < k + 1))

piece_at : (slots k : ℕ) (p : Piece) → PutAt slots k (piece_to k p)
unfolding piece_to
piece_at slots k (Kept s) = refl
piece_at slots k Crooked = inl refl

word_put : (slots word slice : ℕ) (p : Piece) → skips word ≡ false → PutAt slots (not32 word + slice) (word_to slots word slice p)
unfolding word_to
word_put slots word slice p h = rw h (go (ltb slots (not32 word + slice + 1)) refl)
  where
    go : (b : Bool) → ltb slots (not32 word + slice + 1) ≡ b → PutAt slots (not32 word + slice) (cond b (Against no_room_word) (piece_to (not32 word + slice) p))
    go true e = inr (refl, ltb-true slots (not32 word + slice + 1) e)
    go false e = piece_at slots (not32 word + slice) p

found_put : (stored : List ℕ) (slots packed t : ℕ) (f : Walked) (w : Walk) (b : Path) (u : TileNo) (x y : ℕ) (z : Float) → f ≡ Found.Line w b
    → step_of w.pace b (step_no packed) ≡ On.Tile u x y z → u.0 ≡ t → skips (get_or stored t 0) ≡ false
    → PutAt slots (not32 (get_or stored t 0) + slice_no packed) (found_to stored slots packed f)
unfolding found_to step_to
found_put stored slots packed t f w b u x y z e fell number h =
    rw (e, fell, number) (word_put slots (get_or stored t 0) (slice_no packed) (piece_of w (step_no packed) z x y) h)

look_there : (nos : List ℕ) (coords : List Float) (paths stored refs : List ℕ) (slots j : ℕ) → line_at refs j < length nos
    → look_of (lent nos coords paths stored refs) slots j ≡ found_to stored slots (packed_at refs j) (walk_at nos coords paths (line_at refs j))
unfolding look_of found_of
look_there nos coords paths stored refs slots j h = rw (lt-ltb (line_at refs j) (length nos) h)

-- a word that names a slot below the limit is no word of a tile without slots
not_skipped : (word k : ℕ) → not32 word ≤ k → k < most_slots → skips word ≡ false
not_skipped word k h q = le-ltb word handed_from (omega (arith, small.slots))

module _ (nos : List ℕ) (coords : List Float) (paths refs counts : List ℕ) (backs : List ℤ) (stored : List ℕ) (room : ℕ)
    (g : AsGood nos coords paths refs counts backs stored room) where
  abbrev L : Lent
  L = lent nos coords paths stored refs

  abbrev R : ℕ
  R = ref_count refs

  walks : (l : ℕ) → l < length nos → LineGoes nos coords paths l
  walks = goes nos coords paths (length counts) g.paths_good g.ours g.counted

  -- reference j is on a tile of its own path
  owned : (j : ℕ) (x : RefMade nos coords paths refs counts j) → EventOwn nos coords paths (event (line_at refs j) x.tile (step_at refs j))
  owned j x =
      let w = made_event nos coords paths (length nos) refl walks (line_at refs j) (step_at refs j) x.before x.tile x.made in
      subst (EventOwn nos coords paths) w.1
      (all_at (EventOwn nos coords paths) no_event (all_events nos coords paths (length nos)) (line_start nos coords paths (line_at refs j) + x.before)
      (all_own nos coords paths (length counts) g.paths_good g.ours g.counted) w.0)

  -- its slot
  slot_at : ℕ → ℕ
  slot_at j = first_slot stored (tile_of (made_of nos coords paths (line_at refs j) (step_at refs j))) + slice_at refs j

  slot_is : (j : ℕ) (x : RefMade nos coords paths refs counts j) → slot_at j ≡ first_slot stored x.tile + slice_at refs j
  unfolding slot_at
  slot_is j x = ap (λ (m : Made). first_slot stored (tile_of m) + slice_at refs j) x.made

  slot_of : (j : ℕ) (x : RefMade nos coords paths refs counts j) → SlotOf counts stored x.tile (slot_at j)
  slot_of j x = (omega (arith, slot_is j x), omega (arith, slot_is j x, x.slice_in))

  slot_once : (i j : ℕ) → i < R → j < R → slot_at i ≡ slot_at j → i ≡ j
  slot_once i j h k e =
      let x = g.each i h in
      let y = g.each j k in
      let tile : x.tile ≡ y.tile =
      g.slots_once x.tile y.tile (slot_at i) x.tile_in_lem y.tile_in_lem (slot_of i x) (subst (SlotOf counts stored y.tile) (sym e) (slot_of j y)) in
      g.slices_once i j h k x y tile (omega (arith, slot_is i x, slot_is j y, ap (first_slot stored) tile))

  look_put : (slots j : ℕ) → j < R → PutAt slots (slot_at j) (look_of L slots j)
  look_put slots j h =
      let x = g.each j h in
      let o = owned j x in
      let in_list = (made_there nos coords paths (length nos) refl walks (line_at refs j) (step_at refs j) x.before x.tile x.made).0 in
      let at = slot_of j x in
      let f : skips (get_or stored x.tile 0) ≡ false =
      not_skipped (get_or stored x.tile 0) (slot_at j) at.0 (omega (arith, g.slots_in x.tile (slot_at j) x.tile_in_lem at)) in
      rw (slot_is j x, look_there nos coords paths stored refs slots j in_list)
      (found_put stored slots (packed_at refs j) x.tile (walk_at nos coords paths (line_at refs j)) o.walk o.box o.on.tile o.on.x o.on.y o.on.z
      o.walked o.on.fell o.on.number f)

  -- n references from k on: they are written in order, each at its slot, up to the one refused
  record Tiled (slots n k : ℕ) (r : Range) : Type 0 where
    pub to : written_to r.writes ≡ map slot_at (from k (length r.writes))
    pub of : written_from r.writes ≡ from k (length r.writes)
    pub few : length r.writes ≤ n
    pub whole : r.answer ≡ Done → length r.writes ≡ n
    pub cut : (why item : ℕ) → r.answer ≡ Refused why item → k + length r.writes ≡ item
    pub grounds : (why item : ℕ) → r.answer ≡ Refused why item → (why ≡ crooked) ⊎ ((why ≡ no_room_word) × (slots < min room most_slots))

  range_tiled : (slots n k : ℕ) → k + n ≤ R → Tiled slots n k (range_of L slots n k)
  unfolding range_of
  range_tiled slots zero k q =
      record {
        to = refl;
        of = refl;
        few = omega arith;
        whole = λ e. refl;
        cut = λ why item e. let z : ◌≡◌ {A = ℕ} 0 1 = cc in absurd (omega arith);
        grounds = λ why item e. let z : ◌≡◌ {A = ℕ} 0 1 = cc in absurd (omega arith);
      }
  range_tiled slots (suc n) k q =
      go (look_of L slots k) (look_put slots k (omega arith)) (range_of L slots n (suc k)) (range_tiled slots n (suc k) (omega arith))
    where
      below : slot_at k < min room most_slots
      below = let x = g.each k (omega arith) in g.slots_in x.tile (slot_at k) x.tile_in_lem (slot_of k x)

      go : (l : Look) → PutAt slots (slot_at k) l → (r : Range) → Tiled slots n (suc k) r → Tiled slots (suc n) k (look_then_word L k l r)
      go (Put slot s) e r t =
          record {
            to = λ i. e i ∷ t.to i;
            of = ap (λ (x : List ℕ). k ∷ x) t.of;
            few = omega (arith, t.few);
            whole = λ d. ap suc (t.whole d);
            cut = λ why item d. omega (arith, t.cut why item d);
            grounds = t.grounds;
          }
      go Empty e r t = absurd e
      go (Against n') e r t =
          record {
            to = refl;
            of = refl;
            few = omega arith;
            whole = λ d. let z : ◌≡◌ {A = ℕ} 0 1 = cc in absurd (omega arith);
            cut = λ w item d. let z : k ≡ item = cc in omega arith;
            grounds = λ w item d.
                let z : n' ≡ w = cc in
                ⊎_elim (λ c. inl (sym z ∙ c)) (λ c. inr (sym z ∙ c.0, omega (arith, c.1, below))) e;
          }

  own_piece : (slots n k : ℕ) → k + n ≤ R → (w : Write) → Tiling.Made L slots n k w → Good slots w.slot w.segment → OwnPiece nos coords paths refs counts stored w
  own_piece slots n k q w d v =
      let j = w.ref in
      let h : j < R = omega (arith, d.high) in
      let x = g.each j h in
      let o = owned j x in
      let put : PutAt slots (slot_at j) (Put (slot_no_of w.slot) w.segment) = rw d.looked at (look_put slots j h) in
      let path : w.path ≡ get_or nos (line_at refs j) 0 = d.path ∙ ap (λ (l : ℕ). get_or nos l 0) d.line in
      let held : ((path_at paths w.path).first ≤ x.tile) × (x.tile < end_of (path_at paths w.path)) = rw (path, ← o.box_is) o.held in
      record {
        inside = h;
        line = d.line;
        path = d.path;
        path_there = rw path o.path_in;
        made = x;
        tile_low = held.0;
        tile_high = held.1;
        slot = subst (SlotOf counts stored x.tile) (sym put) (slot_of j x);
        straight = v.straight;
      }

  all_both : (slots n k : ℕ) → k + n ≤ R → (us : List Write) → All (Tiling.Made L slots n k) us → All (λ w. Good slots w.slot w.segment) us
      → All (OwnPiece nos coords paths refs counts stored) us
  all_both slots n k q [] d v = tt
  all_both slots n k q (w ∷ us) d v = (own_piece slots n k q w d.0 v.0, all_both slots n k q us d.1 v.1)

  -- a tile's slot is some reference's
  written : (t k : ℕ) → t < length counts → SlotOf counts stored t k → (j : ℕ) × (j < R) × (slot_at j ≡ k)
  written t k q at =
      let y = g.every_slice t (k - first_slot stored t) q (omega (arith, at.0, at.1)) in
      (y.ref, y.inside, omega (arith, slot_is y.ref y.made, ap (first_slot stored) y.tile, y.slice, at.0))

  -- No stray piece over another's tables
  pub no_stray : (slots : ℕ) → NoStray nos coords paths refs counts stored room slots (range_of L slots R 0)
  no_stray slots =
      let r = range_of L slots R 0 in
      let t = range_tiled slots R 0 (omega arith) in
      record {
        each = all_both slots R 0 (omega arith) r.writes (range_made L slots R 0) (range_good L slots R 0);
        in_order = t.of;
        all = t.whole;
        before = λ why item e. omega (arith, t.cut why item e);
        grounds = t.grounds;
        apart =
            rw t.to
            (keys_apart slot_at 0 (length r.writes) (λ i j p q e. let z = slot_once j i (omega (arith, t.few)) (omega (arith, t.few)) e in omega arith));
        once = λ e u k q at.
            let w = written u k q at in
            let m : length r.writes ≡ R = t.whole e in
            rw (t.to, m, ← w.2) (once slot_at 0 R (λ i j p q e. slot_once i j (omega arith) (omega arith) e) w.0 (omega arith) (omega (arith, w.1)));
      }
