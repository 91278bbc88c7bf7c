-- Sums: tiles and references after all lines are counted into zeroed tiles and none is refused. Assumes nothing.
use mathlib.Core.Path.{◌≡◌, refl, sym, ap, ◌∙◌}
use mathlib.Core.List.{List, [], ◌∷◌, map}
use Prim.Native.Nat.{ℕ, zero, suc, ◌+◌, ◌-◌, ◌*◌, ◌/◌, ◌≤◌, ◌<◌, min}
use native.Mathlib.Nat.{not-suc-le-zero, le_of_suc-le-suc, zero-add}
use native.Mathlib.Omega.{arith}
use lib.ListN.{length, get_or, replicate, length-map, length-replicate}
use lib.Seq.{sets, length-sets, ext_get_or}
use lib.IntN.{ℤ, pos}
use lib.Ieee.{Float}
use Rattle.lists.specs.Run.{Ran, done, refused, All}
use Rattle.lists.specs.Sums.{from, length_from}
use Rattle.lists.specs.Tally.{slices, zeros, Below, below_at, count_is_occ, count_sum, slices_are_from, length_slices}
use Rattle.lists.specs.Cells.{get_d_sets_in}
use Rattle.panel.specs.Limits.{most_slots}
use Rattle.panel.specs.Refusals.{done_no}
use Rattle.panel.specs.Widths.{ref_words}
use Rattle.panel.specs.Kinds.{running_of}
use Rattle.panel.specs.Checks.{first_no}
use Rattle.panel.specs.Paths.{end_of, paths_answer}
use Rattle.panel.specs.Answer.{Answer}
use Rattle.panel.proofs.LimitLaws.{step_back, slice_back}
use Rattle.panel.proofs.CheckLaws.{unless_done}
use Rattle.panel.proofs.PathLaws.{checked}
use Rattle.acts.specs.Acts.{St, st_of, packed}
use Rattle.acts.specs.Line.{Refusal}
use Rattle.path_count.specs.Count.{Told, told_of, paper_of, batch, batch_told, lent_checks, call_answer, call_told, counted}
use Rattle.path_count.specs.Counted.{Done}
use Rattle.path_count.proofs.Batches.{Ranged, ranged}
use Rattle.looks.specs.Look.{line_at, packed_at, step_no, slice_no}
use Rattle.theorems.specs.Events.{Event, EventOwn, events_of, tiles_ev, words_ev, counts_of, slice_of}
use Rattle.theorems.specs.Refs.{ref_tile, ref_tiles, ref_slices, AllCounted, Sums}
use Rattle.theorems.proofs.Counting.{Counted, batch_counted, length_tiles, length_words}

-- ---- a call that was done

pub record Through (a b : ℕ) (nos : List ℕ) (coords : List Float) (paths : List ℕ) (s u : St) : Type 0 where
  pub ranged : Ranged (length nos) (length coords) (length s.backs) (length s.counts) a b
  pub passed : paths_answer paths (length s.counts) ≡ Answer.Done
  pub ran : batch nos coords paths (length s.refs / ref_words) a b s ≡ done u

pub call_fine : (nos : List ℕ) (coords : List Float) (paths : List ℕ) (a b : ℕ) (s : St) → call_answer nos coords paths a b s ≡ Answer.Done
    → (Ranged (length nos) (length coords) (length s.backs) (length s.counts) a b) × (paths_answer paths (length s.counts) ≡ Answer.Done)
unfolding call_answer
call_fine nos coords paths a b s f =
    let k = unless_done (first_no (lent_checks (length nos) (length coords) (length s.backs) (length s.counts) (length s.refs) a b)) 0 (paths_answer paths (length s.counts)) f in
    (ranged (length nos) (length coords) (length s.backs) (length s.counts) (length s.refs) a b k.0, k.1)

pub through : (a b l : ℕ) (nos : List ℕ) (coords : List Float) (paths : List ℕ) (s u : St)
    → counted (running_of a s.made) b nos coords paths s.backs s.counts s.refs ≡ told_of (paper_of (Done (running_of l u.made))) u
    → Through a b nos coords paths s u × (l ≡ b)
unfolding counted
through a b l nos coords paths s u e =
    go (call_answer nos coords paths a b s) refl (batch nos coords paths (length s.refs / ref_words) a b s) refl e
  where
    go : (v : Answer) → call_answer nos coords paths a b s ≡ v → (o : Ran St Refusal) → batch nos coords paths (length s.refs / ref_words) a b s ≡ o
        → call_told v (running_of a s.made) s (batch_told b o) ≡ told_of (done_no ∷ l ∷ u.made ∷ []) u → Through a b nos coords paths s u × (l ≡ b)
    go Answer.Done f (done t) g h =
        let p : done_no ∷ b ∷ t.made ∷ [] ≡ done_no ∷ l ∷ u.made ∷ [] = ap (λ (x : Told). x.paper) h in
        let m : t.made ≡ u.made = cc in
        let same : t ≡ u = λ i. record { backs = (h i).backs; counts = (h i).counts; refs = (h i).refs; made = m i } in
        let k = call_fine nos coords paths a b s f in
        (record { ranged = k.0; passed = k.1; ran = g ∙ ap done same }, cc)
    go Answer.Done f (refused t why) g h =
        let p : why.no ∷ why.line ∷ why.line ∷ t.made ∷ [] ≡ done_no ∷ l ∷ u.made ∷ [] = ap (λ (x : Told). x.paper) h in
        let z : ◌≡◌ {A = ℕ} 0 1 = cc in absurd (omega arith)
    go (Answer.Refused n item) f o g h =
        let p : n ∷ item ∷ a ∷ s.made ∷ [] ≡ done_no ∷ l ∷ u.made ∷ [] = ap (λ (x : Told). x.paper) h in
        let z : ◌≡◌ {A = ℕ} 0 1 = cc in absurd (omega arith)

-- ---- the words of an event

abbrev pub no_event : Event
no_event = record { line = 0; tile = 0; step = 0 }

word_line : (es : List Event) (ks : List ℕ) (i : ℕ) → length ks ≡ length es → i < length es → get_or (words_ev es ks) (i * ref_words) 0 ≡ (get_or es i no_event).line
word_line [] ks i e h = absurd (not-suc-le-zero h)
word_line (x ∷ es) [] i e h = absurd (omega arith)
word_line (x ∷ es) (k ∷ ks) zero e h = refl
word_line (x ∷ es) (k ∷ ks) (suc i) e h =
    let two : suc i * ref_words ≡ suc (suc (i * ref_words)) = omega arith in
    rw two (word_line es ks i (omega arith) (omega arith))

word_packed : (es : List Event) (ks : List ℕ) (i : ℕ) → length ks ≡ length es → i < length es
    → get_or (words_ev es ks) (i * ref_words + 1) 0 ≡ packed (get_or ks i 0) (get_or es i no_event).step
word_packed [] ks i e h = absurd (not-suc-le-zero h)
word_packed (x ∷ es) [] i e h = absurd (omega arith)
word_packed (x ∷ es) (k ∷ ks) zero e h = refl
word_packed (x ∷ es) (k ∷ ks) (suc i) e h =
    let two : suc i * ref_words + 1 ≡ suc (suc (i * ref_words + 1)) = omega arith in
    rw two (word_packed es ks i (omega arith) (omega arith))

tile_at_lem : (es : List Event) (i : ℕ) → i < length es → get_or (tiles_ev es) i 0 ≡ (get_or es i no_event).tile
tile_at_lem [] i h = absurd (not-suc-le-zero h)
tile_at_lem (x ∷ es) zero h = refl
tile_at_lem (x ∷ es) (suc i) h = tile_at_lem es i (le_of_suc-le-suc h)

pub all_at : {A : Type 0} (P : A → Type 0) (d : A) (xs : List A) (i : ℕ) → All P xs → i < length xs → P (get_or xs i d)
all_at P d [] i p h = absurd (not-suc-le-zero h)
all_at P d (x ∷ xs) zero p h = p.0
all_at P d (x ∷ xs) (suc i) p h = all_at P d xs i p.1 (le_of_suc-le-suc h)

pub map_from : (f : ℕ → ℕ) (a n i : ℕ) → i < n → get_or (map f (from a n)) i 0 ≡ f (a + i)
map_from f a zero i h = absurd (not-suc-le-zero h)
map_from f a (suc n) zero h = let z : a + 0 ≡ a = omega arith in rw z
map_from f a (suc n) (suc i) h = let z : a + suc i ≡ suc a + i = omega arith in rw z (map_from f (suc a) n i (le_of_suc-le-suc h))

-- a list by its elements, as a map over its places
by_places : (f : ℕ → ℕ) (xs : List ℕ) (m : ℕ) → length xs ≡ m → ((i : ℕ) → i < m → f i ≡ get_or xs i 0) → map f (from 0 m) ≡ xs
by_places f xs m e h =
    let len : length (map f (from 0 m)) ≡ m = length-map (from 0 m) f ∙ length_from 0 m in
    ext_get_or 0 (map f (from 0 m)) xs (len ∙ sym e)
    (λ i p. map_from f 0 m i (omega arith) ∙ ap f (zero-add i) ∙ h i (omega arith))

-- ---- all lines counted

-- what is lent before: zeroed tiles, and no reference yet
abbrev pub start_of : ℕ → List ℕ → St
start_of n refs = st_of (replicate n (pos 0)) (zeros n) refs 0

abbrev pub event_at : List Event → ℕ → Event
event_at es i = get_or es i no_event

zeros_length : (n : ℕ) → length (zeros n) ≡ n
zeros_length n = length-replicate n 0

module _ (b : ℕ) (nos : List ℕ) (coords : List Float) (paths : List ℕ) (n : ℕ) (refs : List ℕ) (bs : List ℤ) (cs rs : List ℕ) (m : ℕ)
    (all : AllCounted b nos coords paths n refs bs cs rs m) where
  pub went : Through 0 b nos coords paths (start_of n refs) (st_of bs cs rs m)
  went = (through 0 b b nos coords paths (start_of n refs) (st_of bs cs rs m) all).0

  pub passed : paths_answer paths n ≡ Answer.Done
  passed = rw (zeros_length n) at went.passed

  pub in_list : b ≤ length nos
  in_list = went.ranged.numbered

  unfoldable pub events : List Event
  events = events_of nos coords paths (from 0 b)

  pub counted_all : Counted nos coords paths n passed (length refs / ref_words) (from 0 b) (start_of n refs) (st_of bs cs rs m)
  counted_all =
      let z : b - 0 ≡ b = omega arith in
      rw z at (batch_counted nos coords paths n passed (length refs / ref_words) 0 b (start_of n refs) (st_of bs cs rs m) went.ran)

  -- what is known of each reference, apart from memory
  pub record Whole (es : List Event) : Type 0 where
    pub made : length es ≡ m
    pub counts : cs ≡ counts_of n (tiles_ev es)
    pub words : rs ≡ sets refs 0 (words_ev es (slices (zeros n) (tiles_ev es)))
    pub own : All (EventOwn nos coords paths) es
    pub few : m ≤ most_slots
    pub room : m * ref_words ≤ length refs

  pub whole : Whole events
  unfolding events
  whole =
      let c = counted_all in
      let f : m ≤ min (length refs / ref_words) most_slots = c.fits (omega arith) in
      record {
        made = omega (arith, c.moved.made);
        counts = c.moved.counts;
        words = c.moved.refs;
        own = c.own;
        few = omega arith;
        room = omega arith;
      }

  -- their tiles are among the n
  pub tiles_below : (es : List Event) → All (EventOwn nos coords paths) es → Below n (tiles_ev es)
  tiles_below [] o = tt
  tiles_below (e ∷ es) o =
      let p = o.0 in
      let f = (checked paths n passed).fits (get_or nos e.line 0) p.path_in in
      let w : end_of p.box ≤ n = rw p.box_is f.within in
      (omega (arith, p.held.1), tiles_below es o.1)

  module _ (es : List Event) (h : Whole es) where
    ks : List ℕ
    ks = slices (zeros n) (tiles_ev es)

    len : length ks ≡ length es
    unfolding ks
    len = length_slices (zeros n) (tiles_ev es) ∙ length_tiles es

    word_at : (p : ℕ) → p < m * ref_words → get_or rs p 0 ≡ get_or (words_ev es ks) p 0
    unfolding ks
    word_at p q =
        let long : length (words_ev es ks) ≡ ref_words * length es = length_words es ks len in
        let k = h.made in
        let k2 = h.room in
        ap (λ (l : List ℕ). get_or l p 0) h.words
        ∙ ap (λ (j : ℕ). get_or (sets refs 0 (words_ev es ks)) j 0) (sym (zero-add p))
        ∙ get_d_sets_in (words_ev es ks) refs 0 p 0 (omega arith) (omega arith)

    pub ref_line : (i : ℕ) → i < m → line_at rs i ≡ (event_at es i).line
    ref_line i q = let k = h.made in word_at (i * ref_words) (omega arith) ∙ word_line es ks i len (omega arith)

    ref_packed : (i : ℕ) → i < m → packed_at rs i ≡ packed (get_or ks i 0) (event_at es i).step
    ref_packed i q = let k = h.made in word_at (i * ref_words + 1) (omega arith) ∙ word_packed es ks i len (omega arith)

    pub owned : (i : ℕ) → i < m → EventOwn nos coords paths (event_at es i)
    owned i q = let k = h.made in all_at (EventOwn nos coords paths) no_event es i h.own (omega arith)

    pub ref_step : (i : ℕ) → i < m → step_no (packed_at rs i) ≡ (event_at es i).step
    ref_step i q = rw (ref_packed i q) (step_back _ _ (owned i q).step_small)

    pub ref_slice : (i : ℕ) → i < m → slice_no (packed_at rs i) ≡ slice_of n (tiles_ev es) i
    unfolding ks
    ref_slice i q = rw (ref_packed i q) (slice_back _ _ (owned i q).step_small)

    pub event_tile : (i : ℕ) → i < m → get_or (tiles_ev es) i 0 ≡ (event_at es i).tile
    event_tile i q = let k = h.made in tile_at_lem es i (omega arith)

    pub ref_tile_lem : (i : ℕ) → i < m → ref_tile nos coords paths rs i ≡ get_or (tiles_ev es) i 0
    ref_tile_lem i q =
        let o = owned i q in
        rw (ref_line i q, ref_step i q, o.walked, o.on.fell) (o.on.number ∙ sym (event_tile i q))

    pub tiles_are : ref_tiles nos coords paths rs m ≡ tiles_ev es
    tiles_are = by_places (ref_tile nos coords paths rs) (tiles_ev es) m (length_tiles es ∙ h.made) ref_tile_lem

    pub slices_are : ref_slices rs m ≡ slices (zeros n) (tiles_ev es)
    unfolding ks
    slices_are = by_places (λ i. slice_no (packed_at rs i)) (slices (zeros n) (tiles_ev es)) m (len ∙ h.made) ref_slice

    sums_of : Sums nos coords paths n cs rs m
    sums_of =
        let ts = tiles_ev es in
        let below : Below n ts = tiles_below es h.own in
        let count : length ts ≡ m = length_tiles es ∙ h.made in
        record {
          total = rw h.counts (count_sum n ts below ∙ count);
          each = λ t q. rw (h.counts, tiles_are) (count_is_occ n ts t q);
          slices = λ t q. rw (h.counts, tiles_are, slices_are) (slices_are_from n ts t q);
          inside = λ i q. rw (ref_tile_lem i q) (below_at n ts i below (omega arith));
          there = let r = h.room in rw (h.words, length-sets) (omega arith);
        }

  -- the sums, whatever is lent
  pub sums : Sums nos coords paths n cs rs m
  sums = sums_of events whole
