-- Complete: what our own count of all lines and our hand-out leave is answered yes, in whatever order the references stand. Assumes nothing.
use mathlib.Core.Path.{◌≡◌, refl, sym, ap, subst, ◌∙◌}
use mathlib.Core.Bool.{Bool, true, false, not, ◌||◌}
use mathlib.Core.List.{List, [], ◌∷◌}
use Prim.Native.Nat.{ℕ, ◌+◌, ◌*◌, ◌/◌, ◌%◌, ◌≤◌, ◌<◌, min, max}
use native.Mathlib.Omega.{arith}
use lib.Dec.{ltb, eqb}
use lib.ListN.{length, get_or, take, length-replicate}
use lib.Seq.{get_or-take, length-take-le}
use lib.IntN.{ℤ, pos, negsuc}
use lib.Ieee.{Float}
use borrow.Author.Tests.{lt-leb, ltb-true, eq-eqb, eqb-true}
use Rattle.lists.specs.Run.{done}
use Rattle.lists.specs.Sums.{sum, first, first_within, first_apart, from}
use Rattle.lists.specs.Tally.{Below}
use Rattle.panel.specs.Limits.{most_slots}
use Rattle.panel.specs.Refusals.{done_no}
use Rattle.panel.specs.Widths.{line_floats, ref_words}
use Rattle.panel.specs.Kinds.{running_of}
use Rattle.panel.specs.Checks.{first_no}
use Rattle.panel.specs.Paths.{paths_answer}
use Rattle.panel.specs.Refs.{line_at, step_no, slice_no}
use Rattle.panel.specs.Answer.{Answer}
use Rattle.panel.proofs.BoolLaws.{both}
use Rattle.panel.proofs.CheckLaws.{all_ok, none_fails, unless_done}
use Rattle.acts.specs.Acts.{St, st_of}
use Rattle.path_count.specs.Count as Count
use Rattle.path_count.specs.Count.{Told, told_of, batch, batch_told, call_answer, call_told, counted}
use Rattle.hand_out.specs.HandOut.{hand, hand_out_of, Out, out_of}
use Rattle.hand_out.proofs.HandLaws.{length_hand, reads_back}
use Rattle.meeting.specs.Meeting.{meets, meets_earlier}
use Rattle.meeting.proofs.FirstLaws.{none_is}
use Rattle.entries.specs.Entries.{slot_fault, first_slot, slot_count, past_room}
use Rattle.made.specs.Made.{made_of}
use Rattle.made.specs.MadeAt.{Made, At}
use Rattle.own_count.specs.Own.{own_to, own_ran}
use Rattle.tile_check.specs.Faults.{ref_count, step_at, slice_at, made_ref, stray, stray_ref, same_step, same_tile, same_slice, step_twice, slice_twice, ref_fault, same_back}
use Rattle.tile_check.specs.Keys.{before_in}
use Rattle.tile_check.specs.Tables as Tables
use Rattle.tile_check.specs.Tables.{work_words, cleared, looked_of, CheckMet}
use Rattle.tile_check.specs.Checked.{Checked, Yes}
use Rattle.theorems.specs.Events.{Event, events_of, tiles_ev, counts_of, slice_of, slot_of}
use Rattle.theorems.specs.Refs.{AllCounted}
use Rattle.theorems.proofs.Exact.{hand_exact}
use Rattle.theorems.proofs.BatchLaws.{same_lengths}
use Rattle.theorems.proofs.SumLaws as SumLaws
use Rattle.theorems.proofs.SumLaws.{start_of, event_at, went, passed, events, whole, Whole, sums, tiles_below}
use Rattle.theorems.proofs.Counting.{length_tiles}
use Rattle.theorems.proofs.Slots.{slice_below, slot_injective}
use Rattle.theorems.proofs.StrayLaws.{handed_is}
use Rattle.check_theorems.specs.Ways.{NoFault, Asked, lent_row}
use Rattle.check_theorems.specs.Order.{Reordered}
use Rattle.check_theorems.proofs.Lines.{LineGoes, line_start, batch_goes, StepMade, event_made}
use Rattle.check_theorems.proofs.Tables.{fine_yes}
use Rattle.check_theorems.proofs.Call.{met_looked, looked_done}
use Rattle.check_theorems.proofs.Alike.{batch_alike}

-- ---- tests

-- what can't be true is false
is_false : (b : Bool) → (b ≡ true → ⊥) → b ≡ false
is_false true h = absurd (h refl)
is_false false h = refl

none : (a b c : Bool) → a ≡ false → b ≡ false → c ≡ false → ((a || b) || c) ≡ false
none a b c p q r = rw (p, q, r)

neither : (a b : Bool) → a ≡ false → b ≡ false → (a || b) ≡ false
neither a b p q = rw (p, q)

back_self : (x : ℤ) → same_back x x ≡ true
back_self (pos m) = eq-eqb m m refl
back_self (negsuc m) = eq-eqb m m refl

same_tiles : (x y : Made) (a b t u : ℕ) → x ≡ At a t → y ≡ At b u → same_tile x y ≡ true → t ≡ u
same_tiles x y a b t u p q e = eqb-true t u (rw (p, q) at e)

-- ---- slots that hand-out gave

module _ (room : ℕ) (cs : List ℕ) (few : sum cs ≤ min room most_slots) where
  slot_at : (t : ℕ) → t < length cs → 0 < get_or cs t 0 → first_slot (hand 0 cs) t ≡ first cs t
  slot_at t h k = reads_back cs (omega (arith, few)) t h k

  not_past : (t : ℕ) → t < length cs → past_room (min room most_slots) cs (hand 0 cs) t ≡ false
  not_past t h = is_false (past_room (min room most_slots) cs (hand 0 cs) t) (λ e.
      let k = both (ltb 0 (slot_count cs t)) (ltb (min room most_slots) (first_slot (hand 0 cs) t + slot_count cs t)) e in
      let some = ltb-true 0 (slot_count cs t) k.0 in
      let over = ltb-true (min room most_slots) (first_slot (hand 0 cs) t + slot_count cs t) k.1 in
      omega (arith, few, slot_at t h some, first_within cs t))

  not_over : (t u : ℕ) → u < t → t < length cs → meets (first_slot (hand 0 cs)) (slot_count cs) t u ≡ false
  not_over t u h k =
      is_false (meets (first_slot (hand 0 cs)) (slot_count cs) t u) (λ e.
      let a = first_slot (hand 0 cs) t in
      let b = first_slot (hand 0 cs) u in
      let q : max a b < min (a + slot_count cs t) (b + slot_count cs u) = ltb-true (max a b) (min (a + slot_count cs t) (b + slot_count cs u)) e in
      let c : 0 < get_or cs t 0 = omega arith in
      let d : 0 < get_or cs u 0 = omega arith in
      omega (arith, slot_at t k c, slot_at u (omega arith) d, first_apart cs u t h))

  slots_clean : (t : ℕ) → t < length cs → slot_fault (min room most_slots) cs (hand 0 cs) t ≡ false
  unfolding slot_fault meets_earlier
  slots_clean t h =
      neither (past_room (min room most_slots) cs (hand 0 cs) t) (meets_earlier (first_slot (hand 0 cs)) (slot_count cs) t) (not_past t h)
      (none_is (meets (first_slot (hand 0 cs)) (slot_count cs) t) t (λ u p. not_over t u p h))

-- ---- a call of counting that was done

counting_asked : (nos : List ℕ) (coords : List Float) (paths : List ℕ) (b : ℕ) (s u : St) (m : ℕ)
    → counted (running_of 0 s.made) b nos coords paths s.backs s.counts s.refs ≡ told_of (done_no ∷ b ∷ m ∷ []) u → call_answer nos coords paths 0 b s ≡ Answer.Done
unfolding counted
counting_asked nos coords paths b s u m e = go (call_answer nos coords paths 0 b s) refl e
  where
    go : (v : Answer) → call_answer nos coords paths 0 b s ≡ v
        → call_told v (running_of 0 s.made) s (batch_told b (batch nos coords paths (length s.refs / ref_words) 0 b s)) ≡ told_of (done_no ∷ b ∷ m ∷ []) u
        → call_answer nos coords paths 0 b s ≡ Answer.Done
    go Answer.Done f h = f
    go (Answer.Refused n item) f h =
        let p : n ∷ item ∷ 0 ∷ s.made ∷ [] ≡ done_no ∷ b ∷ m ∷ [] = ap (λ (x : Told). x.paper) h in
        let z : ◌≡◌ {A = ℕ} 0 1 = cc in absurd (omega arith)

lines_whole : (nos : List ℕ) (coords : List Float) (paths : List ℕ) (b : ℕ) (s : St) → call_answer nos coords paths 0 b s ≡ Answer.Done
    → (length coords % line_floats ≡ 0) × (length nos ≡ length coords / line_floats)
unfolding call_answer
lines_whole nos coords paths b s f =
    let row = Count.lent_checks (length nos) (length coords) (length s.backs) (length s.counts) (length s.refs) 0 b in
    let k = all_ok row (unless_done (first_no row) 0 (paths_answer paths (length s.counts)) f).0 in
    (eqb-true (length coords % line_floats) 0 k.0, eqb-true (length nos) (length coords / line_floats) k.1.0)

events_are : (b : ℕ) (nos : List ℕ) (coords : List Float) (paths : List ℕ) (n : ℕ) (refs : List ℕ) (bs : List ℤ) (cs rs : List ℕ) (m : ℕ)
    (all : AllCounted b nos coords paths n refs bs cs rs m) → events b nos coords paths n refs bs cs rs m all ≡ events_of nos coords paths (from 0 b)
unfolding events
events_are b nos coords paths n refs bs cs rs m all = refl

-- ---- all lines counted, and the references in any order

module _ (nos : List ℕ) (coords : List Float) (paths : List ℕ) (n : ℕ) (refs : List ℕ) (bs : List ℤ) (cs rs : List ℕ) (m : ℕ)
    (all : AllCounted (length nos) nos coords paths n refs bs cs rs m) where
  lined : (length coords % line_floats ≡ 0) × (length nos ≡ length coords / line_floats)
  lined = lines_whole nos coords paths (length nos) (start_of n refs) (counting_asked nos coords paths (length nos) (start_of n refs) (st_of bs cs rs m) m all)

  ok : paths_answer paths n ≡ Answer.Done
  ok = passed (length nos) nos coords paths n refs bs cs rs m all

  ran : batch nos coords paths (length refs / ref_words) 0 (length nos) (start_of n refs) ≡ done (st_of bs cs rs m)
  ran = (went (length nos) nos coords paths n refs bs cs rs m all).ran

  -- our own count leaves the same
  pub own_ran_lem : (r : List ℕ) × (own_ran nos coords paths n ≡ done (st_of bs cs r m))
  unfolding own_to
  own_ran_lem = batch_alike (length refs / ref_words) most_slots (omega arith) nos coords paths 0 (length nos) (start_of n refs) (st_of bs cs rs m) [] ran

  cs_long : length cs ≡ n
  cs_long = (same_lengths nos coords paths n ok (length refs / ref_words) 0 (length nos) (start_of n refs) (st_of bs cs rs m) ran).counts ∙ length-replicate n 0

  bs_long : length bs ≡ n
  bs_long = (same_lengths nos coords paths n ok (length refs / ref_words) 0 (length nos) (start_of n refs) (st_of bs cs rs m) ran).backs ∙ length-replicate n (pos 0)

  module _ (es : List Event) (same : es ≡ events_of nos coords paths (from 0 (length nos))) (w : Whole (length nos) nos coords paths n refs bs cs rs m all es)
      (rs' : List ℕ) (o : Reordered m rs rs') where
    many : ref_count rs' ≡ m
    many = omega (arith, o.many)

    long : length (tiles_ev es) ≡ m
    long = length_tiles es ∙ w.made

    box : Below n (tiles_ev es)
    box = tiles_below (length nos) nos coords paths n refs bs cs rs m all es w.own

    goes : (l : ℕ) → l < length nos → LineGoes nos coords paths l
    goes = batch_goes nos coords paths n ok (length refs / ref_words) (length nos) (start_of n refs) (st_of bs cs rs m) ran

    made_at : (i : ℕ) → i < m → StepMade nos coords paths (length nos) refl goes i (event_at es i)
    made_at i q =
        let h : i < length (events_of nos coords paths (from 0 (length nos))) = omega (arith, w.made, ap length same) in
        subst (λ (l : List Event). StepMade nos coords paths (length nos) refl goes i (event_at l i)) (sym same) (event_made nos coords paths (length nos) refl goes i h)

    -- what is known of reference j of those lent
    record Known (j i : ℕ) : Type 0 where
      pub before : ℕ
      pub tile : ℕ
      pub made : made_ref (made_of nos coords paths) rs' j ≡ At before tile
      pub key : line_start nos coords paths (line_at rs' j) + before ≡ i
      pub slot : first (counts_of n (tiles_ev es)) tile + slice_at rs' j ≡ slot_of n (tiles_ev es) i
      pub small : slice_at rs' j < get_or cs tile 0

    known : (j : ℕ) → j < m → Known j (o.order j)
    known j h =
        let i = o.order j in
        let q : i < m = o.inside j h in
        let e = event_at es i in
        let line : line_at rs' j ≡ e.line = o.line j h ∙ SumLaws.ref_line (length nos) nos coords paths n refs bs cs rs m all es w i q in
        let step : step_at rs' j ≡ e.step = ap step_no (o.word j h) ∙ SumLaws.ref_step (length nos) nos coords paths n refs bs cs rs m all es w i q in
        let slice : slice_at rs' j ≡ slice_of n (tiles_ev es) i = ap slice_no (o.word j h) ∙ SumLaws.ref_slice (length nos) nos coords paths n refs bs cs rs m all es w i q in
        let tile : get_or (tiles_ev es) i 0 ≡ e.tile = SumLaws.event_tile (length nos) nos coords paths n refs bs cs rs m all es w i q in
        let s = made_at i q in
        let below : slice_of n (tiles_ev es) i < get_or cs (get_or (tiles_ev es) i 0) 0 = rw w.counts (slice_below n (tiles_ev es) box i (omega (arith, long))) in
        record {
          before = s.before;
          tile = e.tile;
          made = ap (λ (l : ℕ). made_of nos coords paths l (step_at rs' j)) line ∙ ap (made_of nos coords paths e.line) step ∙ s.made;
          key = ap (λ (l : ℕ). line_start nos coords paths l + s.before) line ∙ s.key;
          slot = omega (arith, slice, ap (first (counts_of n (tiles_ev es))) tile);
          small = omega (arith, slice, below, ap (λ (t : ℕ). get_or cs t 0) tile);
        }

    apart : (i j : ℕ) → i < j → j < m → o.order i ≡ o.order j → ⊥
    apart i j p h e = omega (arith, o.once i j (omega arith) h e)

    no_step : (i j : ℕ) → i < j → j < m → same_step rs' i j ≡ true → ⊥
    no_step i j p h e =
        let b = both (eqb (line_at rs' i) (line_at rs' j)) (eqb (step_at rs' i) (step_at rs' j)) e in
        let line : line_at rs' i ≡ line_at rs' j = eqb-true (line_at rs' i) (line_at rs' j) b.0 in
        let step : step_at rs' i ≡ step_at rs' j = eqb-true (step_at rs' i) (step_at rs' j) b.1 in
        let x = known i (omega arith) in
        let y = known j h in
        let one : At x.before x.tile ≡ At y.before y.tile =
        sym x.made ∙ ap (λ (l : ℕ). made_of nos coords paths l (step_at rs' i)) line ∙ ap (made_of nos coords paths (line_at rs' j)) step ∙ y.made in
        let before : x.before ≡ y.before = ap before_in one in
        apart i j p h (omega (arith, x.key, y.key, before, ap (line_start nos coords paths) line))

    no_slice : (i j : ℕ) → i < j → j < m → same_slice (made_of nos coords paths) rs' i j ≡ true → ⊥
    no_slice i j p h e =
        let x = known i (omega arith) in
        let y = known j h in
        let b = both (same_tile (made_ref (made_of nos coords paths) rs' i) (made_ref (made_of nos coords paths) rs' j)) (eqb (slice_at rs' i) (slice_at rs' j)) e in
        let tile : x.tile ≡ y.tile = same_tiles _ _ x.before y.before x.tile y.tile x.made y.made b.0 in
        let slice : slice_at rs' i ≡ slice_at rs' j = eqb-true (slice_at rs' i) (slice_at rs' j) b.1 in
        apart i j p h
        (slot_injective n (tiles_ev es) box (o.order i) (o.order j) (omega (arith, long, o.inside i (omega arith))) (omega (arith, long, o.inside j h))
        (omega (arith, x.slot, y.slot, slice, ap (first (counts_of n (tiles_ev es))) tile)))

    refs_clean : (j : ℕ) → j < m → ref_fault (made_of nos coords paths) cs rs' j ≡ false
    unfolding ref_fault
    refs_clean j h =
        let k = known j h in
        none (stray_ref (made_of nos coords paths) cs rs' j) (step_twice rs' j) (slice_twice (made_of nos coords paths) rs' j)
        (ap (λ (x : Made). stray cs x (slice_at rs' j)) k.made ∙ lt-leb (get_or cs k.tile 0) (slice_at rs' j) k.small)
        (none_is (λ i. same_step rs' i j) j (λ i p. is_false (same_step rs' i j) (no_step i j p h)))
        (none_is (λ i. same_slice (made_of nos coords paths) rs' i j) j (λ i p. is_false (same_slice (made_of nos coords paths) rs' i j) (no_slice i j p h)))

    module _ (room : ℕ) (few : sum cs ≤ min room most_slots) (r : List ℕ) where
      clean : NoFault (made_of nos coords paths) (st_of bs cs r m) rs' cs bs (hand 0 cs) room
      clean =
          record {
            of_refs = λ j h. refs_clean j (omega (arith, many));
            of_counts = λ t h. ap not (eq-eqb (get_or cs t 0) (get_or cs t 0) refl);
            of_backs = λ t h. ap not (back_self (get_or bs t (pos 0)));
            of_slots = slots_clean room cs few;
          }

      looked_yes : own_ran nos coords paths (length cs) ≡ done (st_of bs cs r m) → looked_of nos coords paths rs' cs bs (hand 0 cs) room ≡ Yes
      looked_yes e =
          looked_done nos coords paths rs' cs bs (hand 0 cs) room [] (st_of bs cs r m) e
          ∙ sym (fine_yes (made_of nos coords paths) (st_of bs cs r m) rs' cs bs (hand 0 cs) room clean (omega (arith, many)))

      asked_ok : (work : List ℕ) → work_words n (length nos) m ≤ length work → Asked nos coords paths rs' cs bs (hand 0 cs) room work
      asked_ok work enough =
          record {
            whole = none_fails (lent_row nos coords paths rs' cs bs (hand 0 cs) room work) (
              eq-eqb (length coords % line_floats) 0 lined.0,
              (
                eq-eqb (length nos) (length coords / line_floats) lined.1,
                (
                  eq-eqb (length rs' % ref_words) 0 (omega (arith, o.many)),
                  (eq-eqb (length bs) (length cs) (bs_long ∙ sym cs_long), (eq-eqb (length (hand 0 cs)) (length cs) (length_hand 0 cs), tt)),
                ),
              ),
            );
            passed = rw cs_long ok;
            enough = omega (arith, cs_long, many, enough);
          }

      yes_of : own_ran nos coords paths n ≡ done (st_of bs cs r m) → (work : List ℕ) → work_words n (length nos) m ≤ length work
          → CheckMet nos coords paths rs' cs bs (hand 0 cs) room work Yes (cleared (work_words n (length nos) m) work)
      yes_of e work enough =
          let a : work_words (length cs) (length nos) (ref_count rs') ≡ work_words n (length nos) m = omega (arith, cs_long, many) in
          let e' : own_ran nos coords paths (length cs) ≡ done (st_of bs cs r m) = ap (own_ran nos coords paths) cs_long ∙ e in
          let met = met_looked nos coords paths rs' cs bs (hand 0 cs) room work (asked_ok work enough) in
          ap (λ (k : ℕ). Tables.out_of Yes (cleared k work)) (sym a)
          ∙ ap (λ (x : Checked). Tables.out_of x (cleared (work_words (length cs) (length nos) (ref_count rs')) work)) (sym (looked_yes e'))
          ∙ met

  -- the references as they were made
  pub as_made : Reordered m rs (take (m * ref_words) rs)
  as_made =
      let there = (sums (length nos) nos coords paths n refs bs cs rs m all).there in
      record {
        order = λ j. j;
        inside = λ j h. h;
        once = λ i j h k e. e;
        many = length-take-le (m * ref_words) rs (omega arith);
        line = λ j h. get_or-take (m * ref_words) rs (j * ref_words) 0 (omega arith);
        word = λ j h. get_or-take (m * ref_words) rs (j * ref_words + 1) 0 (omega arith);
      }

-- Complete: all lines are counted into n zeroed tiles with no refusal, and their slots are handed out with no refusal. Then these references, in whatever
-- order, with these counts, backdrops and stored words are answered yes, given the working room
pub complete : (nos : List ℕ) (coords : List Float) (paths : List ℕ) (n : ℕ) (refs : List ℕ) (bs : List ℤ) (cs rs : List ℕ) (m : ℕ) (room : ℕ) (kept ws tl : List ℕ)
    (rs' work : List ℕ) → AllCounted (length nos) nos coords paths n refs bs cs rs m → hand_out_of room cs kept ≡ out_of Answer.Done ws tl → Reordered m rs rs'
    → work_words n (length nos) m ≤ length work → CheckMet nos coords paths rs' tl bs ws room work Yes (cleared (work_words n (length nos) m) work)
complete nos coords paths n refs bs cs rs m room kept ws tl rs' work all e o enough =
    let k = handed_is room cs kept ws tl e in
    let h = (hand_exact room cs kept).none.0 (ap (λ (x : Out). x.paper) e) in
    let r = own_ran_lem nos coords paths n refs bs cs rs m all in
    rw (k.0, k.1)
    (yes_of nos coords paths n refs bs cs rs m all (events (length nos) nos coords paths n refs bs cs rs m all)
    (events_are (length nos) nos coords paths n refs bs cs rs m all) (whole (length nos) nos coords paths n refs bs cs rs m all) rs' o room h.2 r.0 r.1 work enough)
