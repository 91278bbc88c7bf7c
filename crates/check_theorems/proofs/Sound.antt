-- Sound: a yes is as good as our own count. Assumes nothing.
use mathlib.Core.Path.{◌≡◌, refl, sym, ap, subst, ◌∙◌}
use mathlib.Core.Logic.{◌≢◌}
use mathlib.Core.Bool.{Bool, true, false, ◌||◌}
use mathlib.Core.List.{List}
use Prim.Native.Nat.{ℕ, ◌+◌, ◌≤◌, ◌<◌, min, max}
use native.Mathlib.Decide.{dec_lt}
use native.Mathlib.Omega.{arith}
use lib.Dec.{ltb}
use lib.ListN.{length, get_or, get_or-eq_default}
use lib.Seq.{ext_get_or}
use lib.IntN.{ℤ, pos, negsuc}
use lib.Ieee.{Float}
use borrow.Author.Tests.{leb-false, ltb-false, lt-ltb, eq-eqb, eqb-true, not-false}
use Rattle.lists.specs.Run.{done}
use Rattle.lists.specs.Sums.{sum, first, first_within}
use Rattle.panel.specs.Limits.{most_slots}
use Rattle.panel.specs.Refs.{line_at}
use Rattle.panel.specs.Paths.{paths_answer}
use Rattle.panel.specs.Answer.{Done}
use Rattle.panel.proofs.BoolLaws.{second_false}
use Rattle.panel.proofs.CheckLaws.{all_ok}
use Rattle.acts.specs.Acts.{St}
use Rattle.meeting.specs.Meeting.{meets, meets_earlier}
use Rattle.meeting.proofs.FirstLaws.{none_below}
use Rattle.entries.specs.Entries.{slot_fault, first_slot, slot_count, past_room}
use Rattle.entries.proofs.KeyLaws.{key_once}
use Rattle.made.specs.Made.{made_of}
use Rattle.made.specs.MadeAt.{Made, At, Not}
use Rattle.own_count.specs.Own.{own_ran}
use Rattle.tile_check.specs.Faults.{ref_count, step_at, slice_at, made_ref, stray, stray_ref, same_step, same_tile, same_slice, step_twice, slice_twice, ref_fault, same_back}
use Rattle.tile_check.specs.Tables.{CheckMet}
use Rattle.tile_check.specs.Checked.{Yes}
use Rattle.theorems.specs.Events.{Event}
use Rattle.theorems.proofs.SumLaws.{event_at}
use Rattle.check_theorems.specs.Good.{RefMade, StepThere, SliceThere, SlotOf, AsGood}
use Rattle.check_theorems.specs.Ways.{NoFault, lent_row, CheckWay, lent_refused, line_refused, looked}
use Rattle.check_theorems.proofs.Keys.{few_keys, every_key}
use Rattle.check_theorems.proofs.Steps.{event}
use Rattle.check_theorems.proofs.Lines.{line_start, made_event}
use Rattle.check_theorems.proofs.Ours.{own, goes, made_is, total, counts_long, backs_long}
use Rattle.check_theorems.proofs.Tables.{tables_exact, yes_fine}
use Rattle.check_theorems.proofs.Call.{check_exact}

-- ---- tests taken apart

neither : (a b : Bool) → (a || b) ≡ false → (a ≡ false) × (b ≡ false)
neither true b e = let z : ◌≡◌ {A = ℕ} 0 1 = cc in absurd (omega arith)
neither false b e = (refl, e)

clash : {b : Bool} → b ≡ true → b ≡ false → ⊥
clash p q = let z : ◌≡◌ {A = ℕ} 0 1 = cc in omega arith

back_same : (x y : ℤ) → same_back x y ≡ true → x ≡ y
back_same (pos m) (pos n) e = ap pos (eqb-true m n e)
back_same (pos m) (negsuc n) e = let z : ◌≡◌ {A = ℕ} 0 1 = cc in absurd (omega arith)
back_same (negsuc m) (pos n) e = let z : ◌≡◌ {A = ℕ} 0 1 = cc in absurd (omega arith)
back_same (negsuc m) (negsuc n) e = ap negsuc (eqb-true m n e)

-- what is made, apart: the steps before it, and its tile
abbrev pub before_of : Made → ℕ
before_of (At n t) = n
before_of Not = 0

abbrev pub tile_of : Made → ℕ
tile_of (At n t) = t
tile_of Not = 0

not_stray : (ours : List ℕ) (m : Made) (slice : ℕ) → stray ours m slice ≡ false → (m ≡ At (before_of m) (tile_of m)) × (slice < get_or ours (tile_of m) 0)
not_stray ours (At n t) slice e = (refl, leb-false (get_or ours t 0) slice e)
not_stray ours Not slice e = let z : ◌≡◌ {A = ℕ} 0 1 = cc in absurd (omega arith)

-- ---- no entry at fault

module _ (nos : List ℕ) (coords : List Float) (paths refs counts : List ℕ) (backs : List ℤ) (stored : List ℕ) (room : ℕ)
    (passed : paths_answer paths (length counts) ≡ Done) (backed : length backs ≡ length counts) (paired : length stored ≡ length counts) (ours : St)
    (ran : own_ran nos coords paths (length counts) ≡ done ours)
    (clean : NoFault (made_of nos coords paths) ours refs counts backs stored room) (most : ours.made ≤ ref_count refs) where
  counts_same : counts ≡ ours.counts
  counts_same =
      ext_get_or 0 counts ours.counts (sym (counts_long nos coords paths (length counts) passed ours ran))
      (λ t h. eqb-true (get_or counts t 0) (get_or ours.counts t 0) (not-false _ (clean.of_counts t h)))

  backs_same : backs ≡ ours.backs
  backs_same =
      ext_get_or (pos 0) backs ours.backs (backed ∙ sym (backs_long nos coords paths (length counts) passed ours ran))
      (λ t h. back_same (get_or backs t (pos 0)) (get_or ours.backs t (pos 0)) (not-false _ (clean.of_backs t h)))

  abbrev made : ℕ → Made
  made j = made_ref (made_of nos coords paths) refs j

  abbrev es : List Event
  es = own nos coords paths (length counts) passed ours ran

  -- what is known of reference j
  record Known (j : ℕ) : Type 0 where
    pub is_made : made j ≡ At (before_of (made j)) (tile_of (made j))
    pub slice : slice_at refs j < get_or counts (tile_of (made j)) 0
    pub no_step : step_twice refs j ≡ false
    pub no_slice : slice_twice (made_of nos coords paths) refs j ≡ false

  known : (j : ℕ) → j < ref_count refs → Known j
  unfolding ref_fault
  known j h =
      let a = neither (stray_ref (made_of nos coords paths) ours.counts refs j || step_twice refs j) (slice_twice (made_of nos coords paths) refs j) (clean.of_refs j h) in
      let b = neither (stray_ref (made_of nos coords paths) ours.counts refs j) (step_twice refs j) a.0 in
      let c = not_stray ours.counts (made j) (slice_at refs j) b.0 in
      record {
        is_made = c.0;
        slice = subst (λ (l : List ℕ). slice_at refs j < get_or l (tile_of (made j)) 0) (sym counts_same) c.1;
        no_step = b.1;
        no_slice = a.1;
      }

  tile_there : (t : ℕ) → 0 < get_or counts t 0 → t < length counts
  tile_there t h = go (dec_lt t (length counts))
    where
      go : Dec (t < length counts) → t < length counts
      go (yes q) = q
      go (no q) = let z : get_or counts t 0 ≡ 0 = get_or-eq_default counts 0 {n = t} (omega arith) in absurd (omega arith)

  pub ref_made : (j : ℕ) → j < ref_count refs → RefMade nos coords paths refs counts j
  ref_made j h =
      let k = known j h in
      record { before = before_of (made j); tile = tile_of (made j); made = k.is_made; tile_in_lem = tile_there (tile_of (made j)) (omega (arith, k.slice)); slice_in = k.slice }

  -- ---- by line and step

  key_a : ℕ → ℕ
  key_a j = line_start nos coords paths (line_at refs j) + before_of (made j)

  at_key : (l k n t : ℕ) → made_of nos coords paths l k ≡ At n t
      → (line_start nos coords paths l + n < ours.made) × (event_at es (line_start nos coords paths l + n) ≡ event l t k)
  at_key l k n t e =
      let w = made_event nos coords paths (length nos) refl (goes nos coords paths (length counts) passed ours ran) l k n t e in
      (omega (arith, w.0, made_is nos coords paths (length counts) passed ours ran), w.1)

  at_key_a : (j : ℕ) → j < ref_count refs → (key_a j < ours.made) × (event_at es (key_a j) ≡ event (line_at refs j) (tile_of (made j)) (step_at refs j))
  unfolding key_a
  at_key_a j h = at_key (line_at refs j) (step_at refs j) (before_of (made j)) (tile_of (made j)) (known j h).is_made

  steps_differ : (i j : ℕ) → i < j → j < ref_count refs → line_at refs i ≡ line_at refs j → step_at refs i ≡ step_at refs j → ⊥
  steps_differ i j p h a b =
      clash {b = same_step refs i j} (rw (eq-eqb (line_at refs i) (line_at refs j) a, eq-eqb (step_at refs i) (step_at refs j) b))
      (none_below (λ k. same_step refs k j) j (known j h).no_step i p)

  apart_a : (i j : ℕ) → i < j → j < ref_count refs → key_a j ≢ key_a i
  apart_a i j p h e =
      let a = (at_key_a i (omega arith)).1 in
      let b = (at_key_a j h).1 in
      let same : event (line_at refs i) (tile_of (made i)) (step_at refs i) ≡ event (line_at refs j) (tile_of (made j)) (step_at refs j) = sym a ∙ ap (event_at es) (sym e) ∙ b in
      steps_differ i j p h (ap (λ (x : Event). x.line) same) (ap (λ (x : Event). x.step) same)

  no_extra : ref_count refs ≤ ours.made
  no_extra = few_keys key_a ours.made (ref_count refs) (λ j h. (at_key_a j h).0) apart_a

  step_there : (l k n t : ℕ) → made_of nos coords paths l k ≡ At n t → StepThere refs l k
  step_there l k n t e =
      let g = at_key l k n t e in
      let w = every_key key_a ours.made (ref_count refs) (λ j h. (at_key_a j h).0) apart_a most (line_start nos coords paths l + n) g.0 in
      let j = w.place in
      let h : j < ref_count refs = omega (arith, w.high) in
      let same : event (line_at refs j) (tile_of (made j)) (step_at refs j) ≡ event l t k = sym (at_key_a j h).1 ∙ ap (event_at es) w.key_is ∙ g.1 in
      record { ref = j; inside = h; line = ap (λ (x : Event). x.line) same; step = ap (λ (x : Event). x.step) same }

  once : (P : ℕ → ℕ → Type 0) → ((i j : ℕ) → P i j → P j i) → ((i j : ℕ) → i < j → j < ref_count refs → P i j → ⊥)
      → (i j : ℕ) → i < ref_count refs → j < ref_count refs → P i j → i ≡ j
  once P turn differ i j h k p = go (dec_lt i j) (dec_lt j i)
    where
      go : Dec (i < j) → Dec (j < i) → i ≡ j
      go (yes a) b = absurd (differ i j a k p)
      go (no a) (yes b) = absurd (differ j i b h (turn i j p))
      go (no a) (no b) = omega arith

  -- ---- by tile and slice

  key_b : ℕ → ℕ
  key_b j = first counts (tile_of (made j)) + slice_at refs j

  all_counts : sum counts ≡ ours.made
  all_counts = ap sum counts_same ∙ total nos coords paths (length counts) passed ours ran

  small_b : (j : ℕ) → j < ref_count refs → key_b j < sum counts
  unfolding key_b
  small_b j h = omega (arith, (known j h).slice, first_within counts (tile_of (made j)))

  same_tile_lem : (m n : Made) → m ≡ At (before_of m) (tile_of m) → n ≡ At (before_of n) (tile_of n) → tile_of m ≡ tile_of n → same_tile m n ≡ true
  same_tile_lem (At a t) (At b u) p q e = eq-eqb t u e
  same_tile_lem (At a t) Not p q e = let z : ◌≡◌ {A = ℕ} 0 1 = cc in absurd (omega arith)
  same_tile_lem Not n p q e = let z : ◌≡◌ {A = ℕ} 0 1 = cc in absurd (omega arith)

  slices_differ : (i j : ℕ) → i < j → j < ref_count refs → tile_of (made i) ≡ tile_of (made j) → slice_at refs i ≡ slice_at refs j → ⊥
  slices_differ i j p h a b =
      clash {b = same_slice (made_of nos coords paths) refs i j}
      (rw (same_tile_lem (made i) (made j) (known i (omega arith)).is_made (known j h).is_made a, eq-eqb (slice_at refs i) (slice_at refs j) b))
      (none_below (λ k. same_slice (made_of nos coords paths) refs k j) j (known j h).no_slice i p)

  apart_b : (i j : ℕ) → i < j → j < ref_count refs → key_b j ≢ key_b i
  unfolding key_b
  apart_b i j p h e =
      let w = key_once counts (tile_of (made j)) (tile_of (made i)) (slice_at refs j) (slice_at refs i) (known j h).slice (known i (omega arith)).slice e in
      slices_differ i j p h (sym w.0) (sym w.1)

  slice_there : (t s : ℕ) → t < length counts → s < get_or counts t 0 → SliceThere nos coords paths refs counts t s
  unfolding key_b ref_made
  slice_there t s q h =
      let w = every_key key_b (sum counts) (ref_count refs) small_b apart_b (omega (arith, all_counts)) (first counts t + s) (omega (arith, first_within counts t)) in
      let j = w.place in
      let k : j < ref_count refs = omega (arith, w.high) in
      let o = key_once counts (tile_of (made j)) t (slice_at refs j) s (known j k).slice h w.key_is in
      record { ref = j; inside = k; made = ref_made j k; tile = o.0; slice = o.1 }

  -- ---- slots

  record Clear (t : ℕ) : Type 0 where
    pub within : past_room (min room most_slots) counts stored t ≡ false
    pub apart : (u : ℕ) → u < t → meets (first_slot stored) (slot_count counts) t u ≡ false

  clear : (t : ℕ) → t < length counts → Clear t
  unfolding slot_fault meets_earlier
  clear t h =
      let a = neither (past_room (min room most_slots) counts stored t) (meets_earlier (first_slot stored) (slot_count counts) t) (clean.of_slots t h) in
      record { within = a.0; apart = none_below (meets (first_slot stored) (slot_count counts) t) t a.1 }

  slots_differ : (t u k : ℕ) → u < t → t < length counts → SlotOf counts stored t k → SlotOf counts stored u k → ⊥
  slots_differ t u k p h a b =
      omega (
        arith,
        a.0,
        a.1,
        b.0,
        b.1,
        ltb-false (max (first_slot stored t) (first_slot stored u)) (min (first_slot stored t + slot_count counts t) (first_slot stored u + slot_count counts u)) ((clear t h).apart u p),
      )

  slot_once : (t u k : ℕ) → t < length counts → u < length counts → SlotOf counts stored t k → SlotOf counts stored u k → t ≡ u
  slot_once t u k p q a b = go (dec_lt t u) (dec_lt u t)
    where
      go : Dec (t < u) → Dec (u < t) → t ≡ u
      go (yes x) y = absurd (slots_differ u t k x q b a)
      go (no x) (yes y) = absurd (slots_differ t u k y p a b)
      go (no x) (no y) = omega arith

  slot_in : (t k : ℕ) → t < length counts → SlotOf counts stored t k → k < min room most_slots
  slot_in t k p a =
      let some : 0 < slot_count counts t = omega (arith, a.0, a.1) in
      let e = second_false (ltb 0 (slot_count counts t)) (ltb (min room most_slots) (first_slot stored t + slot_count counts t)) (lt-ltb 0 (slot_count counts t) some) (clear t p).within in
      omega (arith, a.1, ltb-false (min room most_slots) (first_slot stored t + slot_count counts t) e)

  same_made : (i : ℕ) (x : RefMade nos coords paths refs counts i) → tile_of (made i) ≡ x.tile
  same_made i x = ap tile_of x.made

  pub as_good : AsGood nos coords paths refs counts backs stored room
  as_good =
      record {
        paths_good = passed;
        paired = paired;
        ours = ours;
        counted = ran;
        counts_ours = counts_same;
        backs_ours = backs_same;
        as_many = omega (arith, no_extra, most);
        each = ref_made;
        steps_once = λ i j h k a b.
            once (λ i j. (line_at refs i ≡ line_at refs j) × (step_at refs i ≡ step_at refs j)) (λ i j p. (sym p.0, sym p.1))
            (λ i j p q w. steps_differ i j p q w.0 w.1) i j h k (a, b);
        every_step = step_there;
        slices_once = λ i j h k x y a b.
            once (λ i j. (tile_of (made i) ≡ tile_of (made j)) × (slice_at refs i ≡ slice_at refs j)) (λ i j p. (sym p.0, sym p.1))
            (λ i j p q w. slices_differ i j p q w.0 w.1) i j h k (same_made i x ∙ a ∙ sym (same_made j y), b);
        every_slice = slice_there;
        slots_once = slot_once;
        slots_in = slot_in;
      }

-- Sound: a yes is as good as our own count
pub sound : (nos : List ℕ) (coords : List Float) (paths refs counts : List ℕ) (backs : List ℤ) (stored : List ℕ) (room : ℕ) (work work' : List ℕ)
    → CheckMet nos coords paths refs counts backs stored room work Yes work' → AsGood nos coords paths refs counts backs stored room
sound nos coords paths refs counts backs stored room work work' p = go ((check_exact nos coords paths refs counts backs stored room work Yes work').0 p)
  where
    go : CheckWay nos coords paths refs counts backs stored room work Yes work' → AsGood nos coords paths refs counts backs stored room
    go (lent_refused n item e w f) = let z : ◌≡◌ {A = ℕ} 0 1 = cc in absurd (omega arith)
    go (line_refused n l u e w h b y f) = let z : ◌≡◌ {A = ℕ} 0 1 = cc in absurd (omega arith)
    go (looked ours w e y f) =
        let k = all_ok (lent_row nos coords paths refs counts backs stored room work) w.whole in
        let c = yes_fine (made_of nos coords paths) ours refs counts backs stored room ((tables_exact (made_of nos coords paths) ours refs counts backs stored room Yes).1 y) in
        let b = eqb-true (length backs) (length counts) k.1.1.1.0 in
        let t = eqb-true (length stored) (length counts) k.1.1.1.1.0 in
        as_good nos coords paths refs counts backs stored room w.passed b t ours e c.0 c.1
