-- No stray piece. Assumes nothing.
use mathlib.Core.Path.{◌≡◌, refl, sym, ap, ◌∙◌}
use mathlib.Core.Logic.{◌≢◌}
use mathlib.Core.Bool.{Bool, true, false, cond}
use mathlib.Core.List.{List, [], ◌∷◌, map}
use Prim.Native.Nat.{ℕ, zero, suc, ◌+◌, ◌-◌, ◌*◌, ◌/◌, ◌≤◌, ◌<◌}
use native.Mathlib.Omega.{arith}
use lib.Dec.{ltb}
use lib.ListN.{length, get_or, length-replicate, length-set}
use lib.Seq.{length-sets, get_or-set_same, get_or-set_other}
use lib.IntN.{ℤ}
use lib.Ieee.{Float}
use Rattle.lists.specs.Run.{All}
use Rattle.lists.specs.Sums.{sum, first, from}
use Rattle.lists.specs.Tally.{zeros, Below, below_at, length_tally, Distinct}
use Rattle.panel.specs.Limits.{most_slots}
use Rattle.panel.specs.Refusals.{not_whole, no_such, no_room_word}
use Rattle.panel.specs.Widths.{segment_floats}
use Rattle.panel.specs.Kinds.{slot_no_of}
use Rattle.panel.specs.Paths.{path_at, end_of, paths_answer}
use Rattle.panel.specs.Slots.{not32, skips}
use Rattle.panel.specs.Answer.{Done, Refused}
use Rattle.panel.specs.Checks.{first_no}
use Rattle.panel.specs.Verdict.{Verdict}
use Rattle.hand_out.specs.HandOut.{hand, hand_checks, on_fine, hand_out_of, out_of}
use Rattle.hand_out.proofs.HandLaws.{length_hand, reads_back, skips_no_other, out_once}
use Rattle.walk.specs.Step.{step_of}
use Rattle.walk.specs.Lent.{walk_at}
use Rattle.walk.specs.declared.kinds.Walk.{Walk}
use Rattle.walk.specs.Stepped.{Step}
use Rattle.walk.specs.Stepped as On
use Rattle.walk.specs.Walked.{Walked}
use Rattle.walk.specs.Walked as Found
use Rattle.segment.specs.Clips.{piece_of}
use Rattle.segment.specs.Piece.{Piece, Kept, Crooked}
use Rattle.looks.specs.Look.{Lent, lent, line_at, packed_at, step_no, slice_no, piece_to, word_to, step_to, found_to, found_of, look_of}
use Rattle.panel.specs.Segments.{floats_of, segment_at}
use Rattle.panel.specs.Pieces.{Pieces, placed}
use Rattle.panel.proofs.SegmentLaws.{reads_put, reads_other}
use Rattle.path_tiling.specs.Tiling.{Write, Range, range, look_then_word, range_of, slots_of, applied, checks_of, checked_then, call_of, Made}
use Rattle.looks.specs.Looked as L
use Rattle.looks.specs.Looked.{Put, Empty, Against}
use Rattle.looks.proofs.PutLaws.{Good}
use Rattle.path_tiling.proofs.CallLaws as CallLaws
use Rattle.path_tiling.proofs.WriteLaws.{range_made, range_good}
use Rattle.theorems.specs.Events.{Event, tiles_ev, slice_of, slot_of}
use Rattle.theorems.specs.Refs.{step_tile, walk_tile, AllCounted}
use Rattle.theorems.specs.Stray.{tag_at, written_to, written_from, OwnWrite, NoStray}
use Rattle.theorems.proofs.Slots.{slice_below, slots_once, slots_differ}
use Rattle.theorems.proofs.SumLaws.{sums, passed, events, whole, Whole, tiles_below, ref_line, ref_step, ref_slice, ref_tile_lem, owned, event_tile, event_at}
use Rattle.theorems.proofs.Counting.{length_tiles}

-- ---- what a reference comes to, where its slot is known: never an empty tile

abbrev pub PutAt : ℕ → L.Look → Type 0
PutAt k (Put slot s) = slot.0 ≡ k
PutAt k Empty = ⊥
PutAt k (Against why) = Unit {0}

abbrev OnTile : Step → Type 0
OnTile (On.Tile t x y z) = Unit {0}
OnTile On.Refused = ⊥

abbrev OnWalk : Walked → ℕ → Type 0
OnWalk (Found.Refused n) i = Unit {0}
OnWalk Found.Skipped i = Unit {0}
OnWalk (Found.Line w b) i = OnTile (step_of w.pace b i)

piece_at : (k : ℕ) (p : Piece) → PutAt k (piece_to k p)
unfolding piece_to
piece_at k (Kept s) = refl
piece_at k Crooked = tt

word_put : (slots word slice first : ℕ) (p : Piece) → skips word ≡ false → not32 word ≡ first → PutAt (first + slice) (word_to slots word slice p)
unfolding word_to
word_put slots word slice first p h e =
    rw (h, e) (go (ltb slots (first + slice + 1)))
  where
    go : (t : Bool) → PutAt (first + slice) (cond t (Against no_room_word) (piece_to (first + slice) p))
    go true = tt
    go false = piece_at (first + slice) p

step_put : (xs : List ℕ) (slots : ℕ) (w : Walk) (i slice first t : ℕ) (s : Step) → step_tile s ≡ t → OnTile s → skips (get_or xs t 0) ≡ false → not32 (get_or xs t 0) ≡ first
    → PutAt (first + slice) (step_to xs slots w i slice s)
unfolding step_to
step_put xs slots w i slice first t (On.Tile u x y z) e o h g =
    word_put slots (get_or xs u.0 0) slice first (piece_of w i z x y) (rw e h) (rw e g)
step_put xs slots w i slice first t On.Refused e o h g = absurd o

refused_put : (xs : List ℕ) (slots packed k n : ℕ) → PutAt k (found_to xs slots packed (Found.Refused n))
unfolding found_to
refused_put xs slots packed k n = tt

found_put : (xs : List ℕ) (slots packed first t : ℕ) (f : Walked) → walk_tile f (step_no packed) ≡ t → OnWalk f (step_no packed)
    → skips (get_or xs t 0) ≡ false → not32 (get_or xs t 0) ≡ first → PutAt (first + slice_no packed) (found_to xs slots packed f)
unfolding found_to
found_put xs slots packed first t (Found.Refused n) e o h g = tt
found_put xs slots packed first t Found.Skipped e o h g = tt
found_put xs slots packed first t (Found.Line w b) e o h g =
    step_put xs slots w (step_no packed) (slice_no packed) first t (step_of w.pace b (step_no packed)) e o h g

-- ---- writes at slots that differ

-- a slot that none of them goes to
applied_other : (ws : List Write) (p : Pieces) (k : ℕ) → All (λ w. k ≢ w.slot) ws → segment_at (applied ws p).segments k ≡ segment_at p.segments k
applied_other [] p k h = refl
applied_other (w ∷ ws) p k h =
    applied_other ws (placed w.slot w.segment w.tag p) k h.1 ∙ reads_other w.slot w.segment p.segments k h.0

other_tag : (ws : List Write) (p : Pieces) (k : ℕ) → All (λ w. k ≢ w.slot) ws → tag_at (applied ws p) k ≡ tag_at p k
other_tag [] p k h = refl
other_tag (w ∷ ws) p k h =
    other_tag ws (placed w.slot w.segment w.tag p) k h.1 ∙ get_or-set_other p.tags w.slot k w.tag 0 h.0

none_later : (ws : List Write) (k : ℕ) → All (λ u. u ≢ k) (written_to ws) → All (λ w. k ≢ w.slot) ws
none_later [] k h = tt
none_later (w ∷ ws) k h = ((λ e. h.0 (sym e)), none_later ws k h.1)

-- the slots written hold what was written there
applied_kept : (ws : List Write) (p : Pieces) → Distinct (written_to ws) → All (λ w. w.slot < length p.segments / segment_floats) ws
    → All (λ w. segment_at (applied ws p).segments w.slot ≡ w.segment) ws
applied_kept [] p d h = tt
applied_kept (w ∷ ws) p d h = (
  applied_other ws p' w.slot (none_later ws w.slot d.0) ∙ reads_put w.slot w.segment p.segments (omega (arith, h.0)),
  applied_kept ws p' d.1 (grown ws h.1),
)
  where
    p' : Pieces
    p' = placed w.slot w.segment w.tag p

    grown : (us : List Write) → All (λ u. u.slot < length p.segments / segment_floats) us → All (λ u. u.slot < length p'.segments / segment_floats) us
    grown [] k = tt
    grown (u ∷ us) k = (omega (arith, k.0, length-sets p.segments (w.slot * segment_floats) (floats_of w.segment)), grown us k.1)

kept_tags : (ws : List Write) (p : Pieces) → Distinct (written_to ws) → All (λ w. w.slot < length p.tags) ws
    → All (λ w. tag_at (applied ws p) w.slot ≡ w.tag) ws
kept_tags [] p d h = tt
kept_tags (w ∷ ws) p d h = (
  other_tag ws p' w.slot (none_later ws w.slot d.0) ∙ get_or-set_same p.tags w.slot w.tag 0 h.0,
  kept_tags ws p' d.1 (grown ws h.1),
)
  where
    p' : Pieces
    p' = placed w.slot w.segment w.tag p

    grown : (us : List Write) → All (λ u. u.slot < length p.tags) us → All (λ u. u.slot < length p'.tags) us
    grown [] k = tt
    grown (u ∷ us) k = (omega (arith, k.0, length-set p.tags w.slot w.tag), grown us k.1)

-- ---- hand-out that was done

pub handed_is : (room : ℕ) (cs kept ws tl : List ℕ) → hand_out_of room cs kept ≡ out_of Done ws tl → (ws ≡ hand 0 cs) × (tl ≡ cs)
unfolding hand_out_of
handed_is room cs kept ws tl e = go (first_no (hand_checks room cs (length kept))) e
  where
    go : (v : Verdict) → on_fine v cs kept ≡ out_of Done ws tl → (ws ≡ hand 0 cs) × (tl ≡ cs)
    go Verdict.Fine f = let o = out_once Done Done (hand 0 cs) ws cs tl f in (sym o.1, sym o.2)
    go (Verdict.Against n) f = let o = out_once (Refused n 0) Done cs ws kept tl f in let g = o.0 in let z : ◌≡◌ {A = ℕ} 0 1 = cc in absurd (omega arith)

-- ---- the m references that counting made, after hand-out

module _ (b : ℕ) (nos : List ℕ) (coords : List Float) (paths : List ℕ) (n : ℕ) (refs : List ℕ) (bs : List ℤ) (cs rs : List ℕ) (m : ℕ)
    (all : AllCounted b nos coords paths n refs bs cs rs m) (es : List Event) (h : Whole b nos coords paths n refs bs cs rs m all es) where
  ts : List ℕ
  ts = tiles_ev es

  box : Below n (tiles_ev es)
  box = tiles_below b nos coords paths n refs bs cs rs m all es h.own

  long : length (tiles_ev es) ≡ m
  long = length_tiles es ∙ h.made

  cs_long : length cs ≡ n
  cs_long = ap length h.counts ∙ length_tally (zeros n) (tiles_ev es) ∙ length-replicate n 0

  -- reference k's tile holds a word that reads back as its first slot
  pub word_back : (k : ℕ) → k < m
      → (skips (get_or (hand 0 cs) (get_or (tiles_ev es) k 0) 0) ≡ false) × (not32 (get_or (hand 0 cs) (get_or (tiles_ev es) k 0) 0) ≡ first cs (get_or (tiles_ev es) k 0))
  word_back k q =
      let t = get_or (tiles_ev es) k 0 in
      let s = (sums b nos coords paths n refs bs cs rs m all).total in
      let few : sum cs ≤ most_slots = omega (arith, h.few) in
      let p : t < n = below_at n (tiles_ev es) k box (omega (arith, long)) in
      let c : 0 < get_or cs t 0 = rw h.counts (let d = slice_below n (tiles_ev es) box k (omega (arith, long)) in omega arith) in
      (skips_no_other cs few t (omega (arith, cs_long)) c, reads_back cs few t (omega (arith, cs_long)) c)

  abbrev lent_now : Lent
  lent_now = lent nos coords paths (hand 0 cs) rs

  slot_is : (k : ℕ) → k < m → slot_of n (tiles_ev es) k ≡ first cs (get_or (tiles_ev es) k 0) + slice_no (packed_at rs k)
  slot_is k q = rw (ref_slice b nos coords paths n refs bs cs rs m all es h k q, ← h.counts)

  pub look_put : (slots k : ℕ) → k < m → PutAt (slot_of n (tiles_ev es) k) (look_of lent_now slots k)
  unfolding look_of found_of
  look_put slots k q = rw (slot_is k q) (go (ltb (line_at rs k) (length nos)))
    where
      t : ℕ
      t = get_or (tiles_ev es) k 0

      on : OnWalk (walk_at nos coords paths (line_at rs k)) (step_no (packed_at rs k))
      on =
          let o = owned b nos coords paths n refs bs cs rs m all es h k q in
          rw (ref_line b nos coords paths n refs bs cs rs m all es h k q, ref_step b nos coords paths n refs bs cs rs m all es h k q, o.walked, o.on.fell) tt

      go : (u : Bool) → PutAt (first cs t + slice_no (packed_at rs k)) (found_to (hand 0 cs) slots (packed_at rs k) (cond u (walk_at nos coords paths (line_at rs k)) (Found.Refused no_such)))
      go true =
          found_put (hand 0 cs) slots (packed_at rs k) (first cs t) t (walk_at nos coords paths (line_at rs k))
          (ref_tile_lem b nos coords paths n refs bs cs rs m all es h k q) on (word_back k q).0 (word_back k q).1
      go false = refused_put (hand 0 cs) slots (packed_at rs k) (first cs t + slice_no (packed_at rs k)) no_such

  -- j references from k on: they are written in order, each at its slot, up to the one refused
  record Tiled (j k : ℕ) (r : Range) : Type 0 where
    pub to : written_to r.writes ≡ map (slot_of n (tiles_ev es)) (from k (length r.writes))
    pub of : written_from r.writes ≡ from k (length r.writes)
    pub few : length r.writes ≤ j
    pub whole : r.answer ≡ Done → length r.writes ≡ j
    pub cut : (why item : ℕ) → r.answer ≡ Refused why item → k + length r.writes ≡ item

  range_tiled : (slots j k : ℕ) → k + j ≤ m → Tiled j k (range_of lent_now slots j k)
  unfolding range_of
  range_tiled slots zero k q =
      record { to = refl; of = refl; few = omega arith; whole = λ e. refl; cut = λ why item e. let z : ◌≡◌ {A = ℕ} 0 1 = cc in absurd (omega arith) }
  range_tiled slots (suc j) k q = go (look_of lent_now slots k) (look_put slots k (omega arith)) (range_of lent_now slots j (suc k)) (range_tiled slots j (suc k) (omega arith))
    where
      go : (l : L.Look) → PutAt (slot_of n (tiles_ev es) k) l → (r : Range) → Tiled j (suc k) r → Tiled (suc j) k (look_then_word lent_now k l r)
      go (Put slot s) e r g =
          record {
            to = λ i. e i ∷ g.to i;
            of = ap (λ (x : List ℕ). k ∷ x) g.of;
            few = omega (arith, g.few);
            whole = λ d. ap suc (g.whole d);
            cut = λ why item d. omega (arith, g.cut why item d);
          }
      go Empty e r g = absurd e
      go (Against why) e r g =
          record {
            to = refl;
            of = refl;
            few = omega arith;
            whole = λ d. let z : ◌≡◌ {A = ℕ} 0 1 = cc in absurd (omega arith);
            cut = λ w item d. let z : k ≡ item = cc in omega arith;
          }

  own_write : (slots j k : ℕ) → k + j ≤ m → (w : Write) → Made lent_now slots j k w → Good slots w.slot w.segment → OwnWrite nos coords paths cs rs m w
  own_write slots j k q w d g =
      let i = w.ref in
      let p : i < m = omega (arith, d.high) in
      let o = owned b nos coords paths n refs bs cs rs m all es h i p in
      let at : PutAt (slot_of n (tiles_ev es) i) (Put (slot_no_of w.slot) w.segment) = rw d.looked at (look_put slots i p) in
      let tile = ref_tile_lem b nos coords paths n refs bs cs rs m all es h i p in
      let line : w.line ≡ (event_at es i).line = d.line ∙ ref_line b nos coords paths n refs bs cs rs m all es h i p in
      let path : w.path ≡ get_or nos (event_at es i).line 0 = d.path ∙ ap (λ (l : ℕ). get_or nos l 0) line in
      let et = event_tile b nos coords paths n refs bs cs rs m all es h i p in
      let held : ((path_at paths w.path).first ≤ get_or (tiles_ev es) i 0) × (get_or (tiles_ev es) i 0 < end_of (path_at paths w.path)) = rw (path, ← o.box_is, et) o.held in
      let below : slice_of n (tiles_ev es) i < get_or cs (get_or (tiles_ev es) i 0) 0 = rw h.counts (slice_below n (tiles_ev es) box i (omega (arith, long))) in
      let slot : first cs (get_or (tiles_ev es) i 0) + slice_of n (tiles_ev es) i ≡ w.slot = rw h.counts (sym at) in
      record {
        counted = p;
        line = d.line;
        path = d.path;
        tag = d.tag;
        path_there = rw path o.path_in;
        tile_low = rw tile held.0;
        tile_high = rw tile held.1;
        slot_low = rw tile (omega arith);
        slot_high = rw tile (omega arith);
        straight = g.straight;
      }

  all_both : (slots j k : ℕ) → k + j ≤ m → (us : List Write) → All (Made lent_now slots j k) us → All (λ w. Good slots w.slot w.segment) us
      → All (OwnWrite nos coords paths cs rs m) us
  all_both slots j k q [] d g = tt
  all_both slots j k q (w ∷ us) d g = (own_write slots j k q w d.0 g.0, all_both slots j k q us d.1 g.1)

  range_stray : (pieces : Pieces) → length pieces.tags ≡ length pieces.segments / segment_floats
      → NoStray nos coords paths cs rs m pieces (range_of lent_now (slots_of (length pieces.segments)) (m - 0) 0)
  range_stray pieces tags =
      let slots = slots_of (length pieces.segments) in
      let r = range_of lent_now slots (m - 0) 0 in
      let t = range_tiled slots (m - 0) 0 (omega arith) in
      let g = range_good lent_now slots (m - 0) 0 in
      let d : Distinct (written_to r.writes) = rw t.to (slots_differ n (tiles_ev es) box 0 (length r.writes) (omega (arith, t.few, long))) in
      record {
        each = all_both slots (m - 0) 0 (omega arith) r.writes (range_made lent_now slots (m - 0) 0) g;
        in_order = t.of;
        all = λ e. t.whole e ∙ omega arith;
        before = λ why item e. omega (arith, t.cut why item e);
        apart = d;
        once = λ e k q.
            let f : length r.writes ≡ length (tiles_ev es) = omega (arith, t.whole e, long) in
            rw (t.to, f) (slots_once n (tiles_ev es) box k (omega (arith, long)));
        kept = applied_kept r.writes pieces d (within r.writes g);
        tagged = kept_tags r.writes pieces d (tags_within r.writes g);
        others = λ k f. applied_other r.writes pieces k f;
        other_tags = λ k f. other_tag r.writes pieces k f;
      }
    where
      within : (us : List Write) → All (λ w. Good (slots_of (length pieces.segments)) w.slot w.segment) us
          → All (λ w. w.slot < length pieces.segments / segment_floats) us
      within [] k = tt
      within (u ∷ us) k = (omega (arith, k.0.among), within us k.1)

      tags_within : (us : List Write) → All (λ w. Good (slots_of (length pieces.segments)) w.slot w.segment) us → All (λ w. w.slot < length pieces.tags) us
      tags_within [] k = tt
      tags_within (u ∷ us) k = (omega (arith, k.0.among, tags), tags_within us k.1)

  nothing : (pieces : Pieces) (why : ℕ) → NoStray nos coords paths cs rs m pieces (range [] (Refused why 0))
  nothing pieces why =
      record {
        each = tt;
        in_order = refl;
        all = λ e. let z : ◌≡◌ {A = ℕ} 0 1 = cc in absurd (omega arith);
        before = λ w item e. let z : 0 ≡ item = cc in z;
        apart = tt;
        once = λ e k q. let z : ◌≡◌ {A = ℕ} 0 1 = cc in absurd (omega arith);
        kept = tt;
        tagged = tt;
        others = λ k f. refl;
        other_tags = λ k f. refl;
      }

  call_stray : (pieces : Pieces) → NoStray nos coords paths cs rs m pieces (call_of 0 m lent_now pieces)
  unfolding call_of checks_of
  call_stray pieces = go (CallLaws.Whole 0 m lent_now pieces) refl
    where
      same : paths_answer paths (length (hand 0 cs)) ≡ Done
      same = rw (length_hand 0 cs, cs_long) (passed b nos coords paths n refs bs cs rs m all)

      go : (w : Bool) → CallLaws.Whole 0 m lent_now pieces ≡ w
          → NoStray nos coords paths cs rs m pieces (checked_then (cond w (paths_answer paths (length (hand 0 cs))) (Refused not_whole 0))
          (range_of lent_now (slots_of (length pieces.segments)) (m - 0) 0))
      go true q = rw same (range_stray pieces (CallLaws.ready 0 m lent_now pieces q same).tagged)
      go false q = nothing pieces not_whole

-- No stray piece: the first b lines are counted into n zeroed tiles with no refusal, their slots are handed out, and all m references are tiled in one
-- call: whatever is lent
pub no_stray : (b : ℕ) (nos : List ℕ) (coords : List Float) (paths : List ℕ) (n : ℕ) (refs : List ℕ) (bs : List ℤ) (cs rs : List ℕ) (m : ℕ)
    (room : ℕ) (kept ws tl : List ℕ) (pieces : Pieces) → AllCounted b nos coords paths n refs bs cs rs m → hand_out_of room cs kept ≡ out_of Done ws tl
    → NoStray nos coords paths cs rs m pieces (call_of 0 m (lent nos coords paths ws rs) pieces)
no_stray b nos coords paths n refs bs cs rs m room kept ws tl pieces all e =
    rw (handed_is room cs kept ws tl e).0
    (call_stray b nos coords paths n refs bs cs rs m all (events b nos coords paths n refs bs cs rs m all) (whole b nos coords paths n refs bs cs rs m all) pieces)
