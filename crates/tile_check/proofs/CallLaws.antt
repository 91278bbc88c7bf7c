-- What is checked before anything is looked at, the tables in order, and the cleared room.
-- Assumes nothing.
use mathlib.Core.Path.{◌≡◌, refl, sym, ap, ◌∙◌}
use mathlib.Core.Bool.{Bool, true, false, not, cond}
use mathlib.Core.Logic.{◌⊎◌, inl, inr}
use mathlib.Core.List.{List, ◌++◌}
use Prim.Native.Nat.{ℕ, ◌+◌, ◌-◌, ◌*◌, ◌/◌, ◌≤◌, ◌<◌, min}
use native.Mathlib.Omega.{arith}
use lib.Dec.{leb, eqb}
use lib.ListN.{length, get_or, take, drop, replicate, length-append, length-drop, length-replicate, get_or-replicate, get_or-append}
use lib.Seq.{ext_get_or, get_or-take, get_or-append-add}
use lib.IntN.{ℤ}
use lib.Ieee.{Float}
use borrow.Author.Tests.{leb-true, eqb-true, lt-ltb, le-ltb}
use Rattle.float32.proofs.Tests.{below_or_not}
use Rattle.lists.specs.Run.{Ran, done}
use Rattle.ranges.specs.Ranges.{cleared_of}
use Rattle.ranges.proofs.RangeLaws.{length_cleared, cleared_in, cleared_out}
use Rattle.panel.specs.Limits.{most_slots}
use Rattle.panel.specs.Refusals.{no_room_word}
use Rattle.panel.specs.Widths.{line_floats, ref_words}
use Rattle.panel.specs.Checks.{first_no, unless}
use Rattle.panel.specs.Paths.{paths_answer}
use Rattle.panel.specs.Answer.{Answer}
use Rattle.panel.specs.Verdict.{Verdict, Fine, Against}
use Rattle.panel.proofs.CheckLaws.{all_ok, unless_no, unless_fine}
use Rattle.acts.specs.Acts.{St}
use Rattle.acts.specs.Line.{Refusal}
use Rattle.meeting.specs.First.{first_of}
use Rattle.meeting.proofs.FirstLaws.{first_hit, first_missed, first_is, first_same}
use Rattle.entries.specs.Entries.{count_fault, first_count_fault, first_slot_fault}
use Rattle.made.specs.Made.{made_of}
use Rattle.made.specs.MadeAt.{Made}
use Rattle.own_count.specs.Own.{own_ran}
use Rattle.own_count.specs.View.{view_of, OwnMet}
use Rattle.own_count.specs.Counted.{Own}
use Rattle.own_count.proofs.LineLaws.{view_made}
use Rattle.tile_check.specs.Faults.{ref_count, ref_fault, first_ref_fault, first_back_fault}
use Rattle.tile_check.specs.Tables.{no_if, tables_of, ran_of, lent_checks, work_words, and_answer, asked_of, out_of, cleared, looked_of, checked_of}
use Rattle.tile_check.specs.Keys.{looked_at, rest_of}
use Rattle.tile_check.specs.Checked.{Checked, Yes, Reference, Count, Backdrop, Slots, Refused}
use Rattle.tile_check.proofs.RefLaws.{few_clean}
use Rattle.tile_check.proofs.RoomLaws.{view_counts}

-- ---- the checks

module _ (paths : List ℕ) (nn nc nr nt nb ns nw : ℕ) (v : Verdict) (ev : v ≡ first_no (lent_checks nn nc nr nt nb ns)) where
  pub asked_lent : (n : ℕ) → v ≡ Against n → Answer.Refused n 0 ≡ asked_of paths nn nc nr nt nb ns nw
  unfolding asked_of
  asked_lent n e = sym (unless_no _ n 0 _ (sym ev ∙ e))

  module _ (f : v ≡ Fine) (a : Answer) (ea : a ≡ paths_answer paths nt) where
    lent_fine : asked_of paths nn nc nr nt nb ns nw
        ≡ and_answer a (unless (cond (leb (work_words nt nn (nr / ref_words)) nw) Fine (Against no_room_word)) 0 Answer.Done)
    unfolding asked_of
    lent_fine =
        unless_fine _ 0 _ (sym ev ∙ f)
        ∙ ap (λ (x : Answer). and_answer x (unless (cond (leb (work_words nt nn (nr / ref_words)) nw) Fine (Against no_room_word)) 0 Answer.Done)) (sym ea)

    pub asked_path : (n item : ℕ) → a ≡ Answer.Refused n item → a ≡ asked_of paths nn nc nr nt nb ns nw
    asked_path n item e = sym (lent_fine ∙ rw e)

    pub asked_fine : (b : Bool) → b ≡ leb (work_words nt nn (nr / ref_words)) nw → a ≡ Answer.Done → b ≡ true → Answer.Done ≡ asked_of paths nn nc nr nt nb ns nw
    asked_fine b eb e t = sym (lent_fine ∙ rw (e, sym eb ∙ t))

    pub asked_room : (b : Bool) → b ≡ leb (work_words nt nn (nr / ref_words)) nw → a ≡ Answer.Done → b ≡ false → Answer.Refused no_room_word 0 ≡ asked_of paths nn nc nr nt nb ns nw
    asked_room b eb e t = sym (lent_fine ∙ rw (e, sym eb ∙ t))

-- what they tell where none fails
pub record AskedTold (paths : List ℕ) (nn nc nr nt nb ns nw : ℕ) : Type 0 where
  pub lines : nn * line_floats ≤ nc
  pub backs : nb ≡ nt
  pub stored : ns ≡ nt
  pub passed : paths_answer paths nt ≡ Answer.Done
  pub room : work_words nt nn (nr / ref_words) ≤ nw

pub asked_told : (paths : List ℕ) (nn nc nr nt nb ns nw : ℕ) → asked_of paths nn nc nr nt nb ns nw ≡ Answer.Done → AskedTold paths nn nc nr nt nb ns nw
unfolding asked_of
asked_told paths nn nc nr nt nb ns nw e =
    go (first_no (lent_checks nn nc nr nt nb ns)) refl (paths_answer paths nt) refl (leb (work_words nt nn (nr / ref_words)) nw) refl e
  where
    go : (v : Verdict) → first_no (lent_checks nn nc nr nt nb ns) ≡ v → (a : Answer) → paths_answer paths nt ≡ a → (b : Bool) → leb (work_words nt nn (nr / ref_words)) nw ≡ b
        → unless v 0 (and_answer a (unless (cond b Fine (Against no_room_word)) 0 Answer.Done)) ≡ Answer.Done → AskedTold paths nn nc nr nt nb ns nw
    go (Against n) ev a ea b eb q = let z : ◌≡◌ {A = ℕ} 0 1 = cc in absurd (omega arith)
    go Fine ev (Answer.Refused n i) ea b eb q = let z : ◌≡◌ {A = ℕ} 0 1 = cc in absurd (omega arith)
    go Fine ev Answer.Done ea false eb q = let z : ◌≡◌ {A = ℕ} 0 1 = cc in absurd (omega arith)
    go Fine ev Answer.Done ea true eb q =
        let k = all_ok (lent_checks nn nc nr nt nb ns) ev in
        let n : nn ≡ nc / line_floats = eqb-true _ _ k.1.0 in
        record {
          lines = omega arith;
          backs = eqb-true _ _ k.1.1.1.0;
          stored = eqb-true _ _ k.1.1.1.1.0;
          passed = ea;
          room = leb-true (work_words nt nn (nr / ref_words)) nw eb;
        }

-- ---- the tables, in order

pub named : (name : ℕ → Checked) (first n : ℕ) (next : Checked) → first < n → no_if name first n next ≡ name first
named name first n next h = rw (lt-ltb first n h)

pub passed_by : (name : ℕ → Checked) (first n : ℕ) (next : Checked) → n ≤ first → no_if name first n next ≡ next
passed_by name first n next h = rw (le-ltb first n h)

-- a count beside the room's words is one beside our own count's
pub counts_in : (counts ws : List ℕ) (m : ℕ) → first_count_fault counts ws ≡ first_count_fault counts (view_of (length counts) ws m).counts
unfolding first_count_fault
counts_in counts ws m =
    first_same (count_fault counts ws) (count_fault counts (view_of (length counts) ws m).counts) (length counts)
    (λ t h. ap (λ (w : ℕ). not (eqb (get_or counts t 0) w))
    (sym (ap (λ (l : List ℕ). get_or l t 0) (view_counts (length counts) ws m) ∙ get_or-take (length counts) ws t 0 h)))

module _ (ours : St) (lent : ℕ) (counts : List ℕ) (backs : List ℤ) (stored : List ℕ) (room : ℕ) where
  pub rest_count : (c : ℕ) → c ≡ first_count_fault counts ours.counts → c < length counts → Count c ≡ rest_of ours lent counts backs stored room
  unfolding rest_of
  rest_count c e h = rw (sym e, lt-ltb c (length counts) h)

  module _ (c : ℕ) (ec : c ≡ first_count_fault counts ours.counts) (hc : length counts ≤ c) where
    past_counts : rest_of ours lent counts backs stored room
        ≡ no_if Backdrop (first_back_fault backs ours.backs) (length backs)
        (no_if Slots (first_slot_fault (min room most_slots) counts stored) (length counts) (no_if Reference lent ours.made Yes))
    unfolding rest_of
    past_counts = passed_by Count (first_count_fault counts ours.counts) (length counts) _ (omega arith)

    pub rest_back : (b : ℕ) → b ≡ first_back_fault backs ours.backs → b < length backs → Backdrop b ≡ rest_of ours lent counts backs stored room
    rest_back b e h = rw (past_counts, sym e, lt-ltb b (length backs) h)

    module _ (b : ℕ) (eb : b ≡ first_back_fault backs ours.backs) (hb : length backs ≤ b) where
      past_backs : rest_of ours lent counts backs stored room
          ≡ no_if Slots (first_slot_fault (min room most_slots) counts stored) (length counts) (no_if Reference lent ours.made Yes)
      past_backs = past_counts ∙ passed_by Backdrop (first_back_fault backs ours.backs) (length backs) _ (omega arith)

      pub rest_slots : (s : ℕ) → s ≡ first_slot_fault (min room most_slots) counts stored → s < length counts → Slots s ≡ rest_of ours lent counts backs stored room
      rest_slots s e h = rw (past_backs, sym e, lt-ltb s (length counts) h)

      module _ (s : ℕ) (es : s ≡ first_slot_fault (min room most_slots) counts stored) (hs : length counts ≤ s) where
        past_slots : rest_of ours lent counts backs stored room ≡ no_if Reference lent ours.made Yes
        past_slots = past_backs ∙ passed_by Slots (first_slot_fault (min room most_slots) counts stored) (length counts) _ (omega arith)

        pub rest_missing : lent < ours.made → Reference lent ≡ rest_of ours lent counts backs stored room
        rest_missing h = sym (past_slots ∙ named Reference lent ours.made Yes h)

        pub rest_yes : ours.made ≤ lent → Yes ≡ rest_of ours lent counts backs stored room
        rest_yes h = sym (past_slots ∙ passed_by Reference lent ours.made Yes h)

-- ---- so many references are enough

module _ (nos : List ℕ) (coords : List Float) (paths : List ℕ) (tiles m : ℕ) (ws : List ℕ) (own : own_ran nos coords paths tiles ≡ done (view_of tiles ws m)) (refs : List ℕ) (lent f : ℕ)
    (e : f ≡ first_of (ref_fault (made_of nos coords paths) (take tiles ws) refs) (looked_at lent m)) where
  -- one found among them is the first of all
  pub found_first : f < looked_at lent m → f ≡ first_of (ref_fault (made_of nos coords paths) (take tiles ws) refs) lent
  unfolding looked_at
  found_first h =
      first_is (ref_fault (made_of nos coords paths) (take tiles ws) refs) lent f (omega arith)
      (λ g. ap (ref_fault (made_of nos coords paths) (take tiles ws) refs) e ∙ first_hit (ref_fault (made_of nos coords paths) (take tiles ws) refs) (min lent (m + 1)) (omega arith))
      (λ i l. first_missed (ref_fault (made_of nos coords paths) (take tiles ws) refs) (min lent (m + 1)) i (omega arith))

  -- and where there is none, all were looked at
  none_more : looked_at lent m ≤ f → looked_at lent m ≤ m
  none_more h =
      omega (
        arith,
        few_clean nos coords paths tiles (view_of tiles ws m) own (take tiles ws) refs (looked_at lent m)
            (λ i l. first_missed (ref_fault (made_of nos coords paths) (take tiles ws) refs) (looked_at lent m) i (omega arith)),
        view_made tiles ws m,
      )

  all_looked : looked_at lent m ≤ f → looked_at lent m ≡ lent
  unfolding looked_at
  all_looked h = omega (arith, none_more h)

  pub none_found : looked_at lent m ≤ f → f ≡ first_of (ref_fault (made_of nos coords paths) (take tiles ws) refs) lent
  none_found h = e ∙ ap (first_of (ref_fault (made_of nos coords paths) (take tiles ws) refs)) (all_looked h)

  pub none_past : looked_at lent m ≤ f → lent ≤ f
  none_past h = omega (arith, all_looked h)

module _ (made : ℕ → ℕ → Made) (tiles : ℕ) (ws : List ℕ) (m : ℕ) (refs counts : List ℕ) (backs : List ℤ) (stored : List ℕ) (room f : ℕ)
    (e : f ≡ first_of (ref_fault made (take tiles ws) refs) (ref_count refs)) where
  pub tables_ref : f < ref_count refs → Reference f ≡ tables_of made (view_of tiles ws m) refs counts backs stored room
  unfolding tables_of first_ref_fault view_of
  tables_ref h = rw (sym e, lt-ltb f (ref_count refs) h)

  pub tables_rest : ref_count refs ≤ f → rest_of (view_of tiles ws m) (ref_count refs) counts backs stored room ≡ tables_of made (view_of tiles ws m) refs counts backs stored room
  unfolding tables_of first_ref_fault rest_of view_of
  tables_rest h = rw (sym e, le-ltb f (ref_count refs) h)

-- a backdrop beside the room's words
pub backs_in : (backs : List ℤ) (ws : List ℕ) (n m : ℕ) → length backs ≡ n → first_back_fault backs (view_of (length backs) ws 0).backs ≡ first_back_fault backs (view_of n ws m).backs
unfolding view_of
backs_in backs ws n m e = rw e

-- what the room asks of the numbers lent
pub looked_most : (lent m : ℕ) → (looked_at lent m ≤ lent) × (looked_at lent m ≤ m + 1)
unfolding looked_at
looked_most lent m = (omega arith, omega arith)

-- ---- our own count's answer

module _ (nos : List ℕ) (coords : List Float) (paths refs counts : List ℕ) (backs : List ℤ) (stored : List ℕ) (room : ℕ) (ws : List ℕ) where
  pub looked_refused : (why line : ℕ) → OwnMet nos coords paths (length counts) ws (Own.Refused why line) → Refused why line ≡ looked_of nos coords paths refs counts backs stored room
  unfolding looked_of
  looked_refused why line m = sym (ap (λ (o : Ran St Refusal). ran_of o (λ ours. tables_of (made_of nos coords paths) ours refs counts backs stored room)) m.1)

  pub looked_done : (m : ℕ) (r : Checked) → own_ran nos coords paths (length counts) ≡ done (view_of (length counts) ws m)
      → r ≡ tables_of (made_of nos coords paths) (view_of (length counts) ws m) refs counts backs stored room → r ≡ looked_of nos coords paths refs counts backs stored room
  unfolding looked_of
  looked_done m r e t = t ∙ sym (ap (λ (o : Ran St Refusal). ran_of o (λ ours. tables_of (made_of nos coords paths) ours refs counts backs stored room)) e)

-- ---- the cleared room

pub cleared_is : (n : ℕ) (part work : List ℕ) → n ≤ length work → length part ≡ n → cleared_of 0 0 n (part ++ drop n work) ≡ cleared n work
cleared_is n part work h e =
    ext_get_or 0 (cleared_of 0 0 n (part ++ drop n work)) (cleared n work) (length_cleared 0 0 n (part ++ drop n work) ∙ long)
    (λ i g. at i (omega (arith, length_cleared 0 0 n (part ++ drop n work))) (below_or_not i n))
  where
    whole : length (part ++ drop n work) ≡ length work
    whole = length-append part (drop n work) ∙ omega (arith, length-drop n work)

    long : length (part ++ drop n work) ≡ length (cleared n work)
    long = whole ∙ sym (length-append (replicate n 0) (drop n work) ∙ omega (arith, length-drop n work, length-replicate {A = ℕ} n 0))

    at : (i : ℕ) → i < length (part ++ drop n work) → (i < n) ⊎ (n ≤ i) → get_or (cleared_of 0 0 n (part ++ drop n work)) i 0 ≡ get_or (cleared n work) i 0
    at i g (inl l) =
        cleared_in 0 0 n (part ++ drop n work) i (omega arith) (omega arith) g
        ∙ sym (get_or-append (replicate n 0) (drop n work) 0 i (omega (arith, length-replicate {A = ℕ} n 0)) ∙ get_or-replicate n i 0 0 l)
    at i g (inr l) =
        let p : length part + (i - n) ≡ i = omega arith in
        let q : length {A = ℕ} (replicate n 0) + (i - n) ≡ i = omega (arith, length-replicate {A = ℕ} n 0) in
        cleared_out 0 0 n (part ++ drop n work) i (inr (omega arith)) g
        ∙ ap (λ (k : ℕ). get_or (part ++ drop n work) k 0) (sym p)
        ∙ get_or-append-add part (drop n work) (i - n) 0
        ∙ sym (ap (λ (k : ℕ). get_or (cleared n work) k 0) (sym q) ∙ get_or-append-add (replicate n 0) (drop n work) (i - n) 0)

module _ (nos : List ℕ) (coords : List Float) (paths refs counts : List ℕ) (backs : List ℤ) (stored : List ℕ) (room : ℕ) (work : List ℕ) (a : Answer)
    (ea : a ≡ asked_of paths (length nos) (length coords) (length refs) (length counts) (length backs) (length stored) (length work)) where
  pub check_asked : (n item : ℕ) → a ≡ Answer.Refused n item → out_of (Refused n item) work ≡ checked_of nos coords paths refs counts backs stored room work
  unfolding checked_of
  check_asked n item e = rw (sym ea ∙ e)

  pub check_looked : (r : Checked) (work' : List ℕ) → a ≡ Answer.Done → r ≡ looked_of nos coords paths refs counts backs stored room
      → work' ≡ cleared (work_words (length counts) (length nos) (ref_count refs)) work → out_of r work' ≡ checked_of nos coords paths refs counts backs stored room work
  unfolding checked_of
  check_looked r work' e er ew = rw (sym ea ∙ e, er, ew)
