-- Which numbers a frame's stages refuse with: 1 to 4 are the checks', counting's lie from 5 to 11, hand-out's is 9 and tiling's 12. Assumes nothing.
use mathlib.Core.Path.{◌≡◌, refl, sym, ap, ◌∙◌}
use mathlib.Core.Logic.{◌⊎◌, inl, inr}
use mathlib.Core.List.{List, [], ◌∷◌}
use Prim.Native.Nat.{ℕ, zero, suc, ◌+◌, ◌/◌, ◌≤◌, ◌<◌}
use native.Mathlib.Omega.{arith}
use lib.ListN.{length, get_or}
use lib.IntN.{ℤ}
use lib.Ieee.{Float}
use Rattle.panel.specs.Pieces.{Pieces}
use Rattle.lists.specs.Run.{All, all_append}
use Rattle.lists.specs.Sums.{from, first_within}
use Rattle.panel.specs.Refusals.{crooked}
use Rattle.panel.specs.Widths.{ref_words}
use Rattle.panel.specs.declared.kinds.Running.{Running}
use Rattle.panel.specs.Slots.{slot_of}
use Rattle.walk.specs.Step.{step_of}
use Rattle.walk.specs.Lent as WalkLent
use Rattle.walk.specs.Lent.{walk_at}
use Rattle.walk.specs.Stepped as On
use Rattle.walk.specs.Walked.{Line}
use Rattle.walk.proofs.Walks.{line_told}
use Rattle.acts.specs.Acts.{St, st_of, Act, mark, visit, stop, delta_of}
use Rattle.acts.specs.Line.{plan_acts}
use Rattle.walked_lines.specs.Line.{plan_of}
use Rattle.hand_out.specs.HandOut.{hand}
use Rattle.looks.specs.Look.{lent, line_at, packed_at, step_no, slice_no}
use Rattle.path_tiling.specs.Tiling.{slots_of}
use Rattle.frame.specs.Frame.{out_of, frame_of}
use Rattle.frame.specs.declared.kinds.Stage.{Stage}
use Rattle.frame.specs.Framed.{Refused}
use Rattle.theorems.specs.Drawn.{acts_by, walk_of, drawn_at}
use Rattle.theorems.specs.Events.{Event, EventOwn, events_in, events_of, tiles_ev, slice_of}
use Rattle.theorems.specs.Refs.{AllCounted, step_tile}
use Rattle.theorems.specs.Refusing.{
  StopsAt,
  ActWhy,
  LineWhy,
  five,
  six,
  seven,
  eight,
  nine,
  ten,
  stops,
  RangeWhy,
  LookWhy,
  seven_line,
  six_line,
  seven_path,
  seven_skipped,
  ten_step,
  nine_slot,
  twelve,
}
use Rattle.theorems.proofs.Slots.{slice_below}
use Rattle.theorems.proofs.SumLaws.{no_event, event_at, all_at, in_list, events, whole, Whole, tiles_below, owned, ref_line, ref_step, ref_slice, event_tile, sums}
use Rattle.theorems.proofs.Counting.{length_tiles}
use Rattle.theorems.proofs.StrayLaws.{word_back}
use Rattle.theorems.proofs.Exact.{no_clash, line_exact}
use Rattle.theorems.proofs.Grounds.{good_ends, step_exact}
use Rattle.theorems.proofs.ExactLooks.{look_exact}
use Rattle.theorems.proofs.Framing.{frame_refused, frame_why, frame_line, frame_slots, frame_no_sums}

-- ---- counting

-- a line is refused with a number from 5 to 11
pub line_number : (nos : List ℕ) (coords : List Float) (paths : List ℕ) (room l : ℕ) (s : St) (n : ℕ) → LineWhy nos coords paths room l s n → (4 < n) × (n < 12)
line_number nos coords paths room l s n (five e h) = (omega arith, omega arith)
line_number nos coords paths room l s n (six e h r) = (omega arith, omega arith)
line_number nos coords paths room l s n (seven e h r p) = (omega arith, omega arith)
line_number nos coords paths room l s n (eight e w b h i j) = (omega arith, omega arith)
line_number nos coords paths room l s n (nine e w b h i j) = (omega arith, omega arith)
line_number nos coords paths room l s n (ten e w b h i j u k p q r o) = (omega arith, omega arith)
line_number nos coords paths room l s n (stops w b h i j u a st q) = go a st q
  where
    go : (a : Act) → StopsAt (delta_of (plan_of w b).up) l (plan_acts (plan_of w b)) s u a → ActWhy (delta_of (plan_of w b).up) u a n → (4 < n) × (n < 12)
    go (mark t) st q = let e = q.0 in (omega arith, omega arith)
    go (visit t i) st q = let e = q.0 in (omega arith, omega arith)
    go (stop m) st q = absurd q

-- ---- tiling

-- a reference's line is one of those counted
events_in_lem : (l b : ℕ) → l < b → (xs : List Act) → All (λ e. e.line < b) (events_in l xs)
events_in_lem l b h [] = tt
events_in_lem l b h (mark t ∷ xs) = events_in_lem l b h xs
events_in_lem l b h (visit t i ∷ xs) = (h, events_in_lem l b h xs)
events_in_lem l b h (stop n ∷ xs) = events_in_lem l b h xs

lines_in : (nos : List ℕ) (coords : List Float) (paths : List ℕ) (a k b : ℕ) → a + k ≤ b → All (λ e. e.line < b) (events_of nos coords paths (from a k))
lines_in nos coords paths a zero b h = tt
lines_in nos coords paths a (suc k) b h =
    all_append (λ (e : Event). e.line < b) (events_in a (acts_by (walk_of paths (drawn_at nos coords a)))) (events_of nos coords paths (from (suc a) k))
    (events_in_lem a b (omega arith) (acts_by (walk_of paths (drawn_at nos coords a)))) (lines_in nos coords paths (suc a) k b (omega arith))

module _ (b : ℕ) (nos : List ℕ) (coords : List Float) (paths : List ℕ) (n : ℕ) (refs : List ℕ) (bs : List ℤ) (cs rs : List ℕ) (m : ℕ)
    (all : AllCounted b nos coords paths n refs bs cs rs m) (slots : ℕ) (room : m ≤ slots) (k : ℕ) (q : k < m)
    (es : List Event) (w : Whole b nos coords paths n refs bs cs rs m all es) (lines : All (λ e. e.line < b) es) where
  line : line_at rs k ≡ (event_at es k).line
  line = ref_line b nos coords paths n refs bs cs rs m all es w k q

  line_in : line_at rs k < length nos
  line_in =
      let i : (event_at es k).line < b = all_at (λ (e : Event). e.line < b) no_event es k lines (omega (arith, w.made)) in
      omega (arith, line, in_list b nos coords paths n refs bs cs rs m all)

  abbrev own : EventOwn nos coords paths (event_at es k)
  own = owned b nos coords paths n refs bs cs rs m all es w k q

  walked : walk_at nos coords paths (line_at rs k) ≡ Line own.walk own.box
  walked = ap (walk_at nos coords paths) line ∙ own.walked

  step : step_no (packed_at rs k) ≡ (event_at es k).step
  step = ref_step b nos coords paths n refs bs cs rs m all es w k q

  -- its slot is one of those below the number of references
  slot_in : (t : ℕ) → t ≡ (event_at es k).tile → slot_of (get_or (hand 0 cs) t 0) (slice_no (packed_at rs k)) < m
  slot_in t e =
      let i : t ≡ get_or (tiles_ev es) k 0 = e ∙ sym (event_tile b nos coords paths n refs bs cs rs m all es w k q) in
      let below : slice_of n (tiles_ev es) k < get_or cs (get_or (tiles_ev es) k 0) 0 =
      rw w.counts (slice_below n (tiles_ev es) (tiles_below b nos coords paths n refs bs cs rs m all es w.own) k (omega (arith, length_tiles es, w.made))) in
      rw i
      (omega (
        arith,
        (word_back b nos coords paths n refs bs cs rs m all es w k q).1,
        ref_slice b nos coords paths n refs bs cs rs m all es w k q,
        below,
        first_within cs (get_or (tiles_ev es) k 0),
        (sums b nos coords paths n refs bs cs rs m all).total,
      ))

  no_other : (why : ℕ) → LookWhy (lent nos coords paths (hand 0 cs) rs) slots k why → why ≡ crooked
  no_other why (seven_line e h) = absurd (omega (arith, line_in))
  no_other why (six_line e h r) = absurd (good_ends (WalkLent.line_at coords (line_at rs k)) (line_told nos coords paths (line_at rs k) own.walk own.box walked).reached r)
  no_other why (seven_path e h r p) = absurd (omega (arith, (line_told nos coords paths (line_at rs k) own.walk own.box walked).path_in))
  no_other why (seven_skipped e h z) = let t = walked in no_clash cc
  no_other why (ten_step e v c h r) =
      let s : Line v c ≡ Line own.walk own.box = sym h.1 ∙ walked in
      let x : v ≡ own.walk = cc in
      let y : c ≡ own.box = cc in
      let q : step_of v.pace c (step_no (packed_at rs k)) ≡ On.Refused = (step_exact v.pace c (step_no (packed_at rs k))).1 r in
      let z : step_of own.walk.pace own.box (event_at es k).step ≡ On.Refused = rw (x, y, step) at q in
      let f = own.on.fell in
      no_clash cc
  no_other why (nine_slot e v c h o p) =
      let s : Line v c ≡ Line own.walk own.box = sym h.1 ∙ walked in
      let x : v ≡ own.walk = cc in
      let y : c ≡ own.box = cc in
      let z : step_of own.walk.pace own.box (event_at es k).step ≡ On.Tile o.tile o.x o.y o.z = rw (x, y, step) at o.fell in
      let f : On.Tile o.tile o.x o.y o.z ≡ On.Tile own.on.tile own.on.x own.on.y own.on.z = sym z ∙ own.on.fell in
      let g : o.tile.0 ≡ own.on.tile.0 = ap step_tile f in
      absurd (omega (arith, slot_in o.tile.0 (g ∙ own.on.number)))
  no_other why (twelve e v c h o p d) = e

-- a reference that counting made, with room for all of them: tiling refuses it with 12 alone
pub crooked_alone : (b : ℕ) (nos : List ℕ) (coords : List Float) (paths : List ℕ) (n : ℕ) (refs : List ℕ) (bs : List ℤ) (cs rs : List ℕ) (m : ℕ)
    → AllCounted b nos coords paths n refs bs cs rs m → (slots : ℕ) → m ≤ slots → (k : ℕ) → k < m → (why : ℕ)
    → LookWhy (lent nos coords paths (hand 0 cs) rs) slots k why → why ≡ crooked
unfolding events
crooked_alone b nos coords paths n refs bs cs rs m all slots room k q why h =
    no_other b nos coords paths n refs bs cs rs m all slots room k q (events b nos coords paths n refs bs cs rs m all) (whole b nos coords paths n refs bs cs rs m all)
    (lines_in nos coords paths 0 b b (omega arith)) why h

-- ---- a frame

module _ (nos : List ℕ) (coords : List Float) (paths : List ℕ) (backs : List ℤ) (stored tally refs : List ℕ) (p : Pieces)
    (bs : List ℤ) (ts ks rs : List ℕ) (sg : Pieces) (s : Running) where
  -- A frame is refused in tiling: with 12, at the first reference whose segment has an end outside its tile
  pub frame_crooked : (why k : ℕ) → frame_of nos coords paths backs stored tally refs p ≡ out_of (Refused Stage.Tile why k s) bs ts ks rs sg
      → (why ≡ crooked) × RangeWhy (lent nos coords paths ts rs) (slots_of (length p.segments)) s.refs 0 why k
  frame_crooked why k e =
      let f = frame_refused nos coords paths backs stored tally refs p bs ts ks rs sg s why k e in
      let c = f.counts in
      let r = frame_why nos coords paths backs stored tally refs p bs ts ks rs sg s why k e in
      let h : LookWhy (lent nos coords paths (hand 0 ks) rs) (slots_of (length p.segments)) k why = rw f.handed at
      ((look_exact (lent nos coords paths ts rs) (slots_of (length p.segments)) k why).0 r.halts) in
      (crooked_alone (length nos) nos coords paths (length stored) refs c.marks ks rs s.refs c.all (slots_of (length p.segments)) f.room k (omega (arith, r.high)) why h, r)

  -- 1 to 4 come from the checks of what is lent alone
  pub late_numbers : (at : Stage) (why item : ℕ) → frame_of nos coords paths backs stored tally refs p ≡ out_of (Refused at why item s) bs ts ks rs sg → (at ≡ Stage.Lent) ⊎ (4 < why)
  late_numbers Stage.Lent why item e = inl refl
  late_numbers Stage.Count why item e =
      let b = (frame_line nos coords paths backs stored tally refs p bs ts ks rs sg s why item e).1 in
      let w = (line_exact nos coords paths (length refs / ref_words) s.lines (st_of bs ts rs s.refs) why).0 b.halts in
      inr (line_number nos coords paths (length refs / ref_words) s.lines (st_of bs ts rs s.refs) why w).0
  late_numbers Stage.Backdrop why item e = absurd (frame_no_sums nos coords paths backs stored tally refs p bs ts ks rs sg s why item e)
  late_numbers Stage.HandOut why item e = let w = (frame_slots nos coords paths backs stored tally refs p bs ts ks rs sg s why item e).0 in inr (omega arith)
  late_numbers Stage.Tile why item e = let w = (frame_crooked why item e).0 in inr (omega arith)
