-- Batches: lines cut anywhere come to the same as in one call; so do ranges of references. Assumes nothing.
use mathlib.Core.Path.{◌≡◌, refl, sym, ap, ◌∙◌}
use mathlib.Core.List.{List, [], ◌∷◌, map}
use Prim.Native.Nat.{ℕ, ◌-◌, ◌/◌, ◌≤◌}
use native.Mathlib.Omega.{arith}
use lib.ListN.{length, get_or, length-set}
use lib.Seq.{length-sets}
use lib.IntN.{ℤ, pos, ◌+ℤ◌}
use lib.Ieee.{Float}
use borrow.Author.Tests.{le-leb}
use Rattle.lists.specs.Run.{Ran, done, refused, and_then, act_all, act_all_append}
use Rattle.lists.specs.Sums.{from}
use Rattle.lists.specs.Tally.{length_tally}
use Rattle.lists.specs.Order as Order
use Rattle.lists.specs.Order.{add_at_word}
use Rattle.panel.specs.Widths.{line_floats, ref_words}
use Rattle.panel.specs.Kinds.{running_of}
use Rattle.panel.specs.Paths.{paths_answer}
use Rattle.panel.specs.declared.kinds.Running.{Running}
use Rattle.panel.specs.Answer.{Answer}
use Rattle.acts.specs.Acts.{St, st_of}
use Rattle.acts.specs.Line.{Refusal}
use Rattle.path_count.specs.Count.{Told, batch, batch_told, call_answer, call_told, counted}
use Rattle.path_count.proofs.Batches.{batches}
use Rattle.panel.specs.Kinds as Kinds
use Rattle.looks.specs.Look.{Lent}
use Rattle.panel.specs.Pieces.{Pieces, placed}
use Rattle.path_tiling.specs.Tiling.{Range, applied, call_of, Tiled, tiled, range_tiled, tiled_of, then_on, then_range}
use Rattle.path_tiling.proofs.WriteLaws.{calls_join}
use Rattle.theorems.specs.Drawn.{Drawn, drawn_at, marks_of}
use Rattle.theorems.specs.Events.{events_of, tiles_ev}
use Rattle.theorems.specs.Batches.{Rising, last_of, and_told, in_batches, on_tiled, in_ranges}
use Rattle.theorems.proofs.Counting.{batch_counted}
use Rattle.theorems.proofs.SumLaws.{call_fine}

-- ---- a batch keeps lengths

length_marks : (ms : List (ℕ × ℤ)) (l : List ℤ) → length (Order.mark ms l) ≡ length l
length_marks [] l = refl
length_marks (m ∷ ms) l = length_marks ms (add_at_word (pos 0) ◌+ℤ◌ m l) ∙ length-set l m.0 (get_or l m.0 (pos 0) +ℤ m.1)

pub length_all : (paths : List ℕ) (ds : List Drawn) (l : List ℤ) → length (act_all (λ d. Order.mark (marks_of paths d)) ds l) ≡ length l
length_all paths [] l = refl
length_all paths (d ∷ ds) l = length_all paths ds (Order.mark (marks_of paths d) l) ∙ length_marks (marks_of paths d) l

pub record SameLengths (s u : St) : Type 0 where
  pub backs : length u.backs ≡ length s.backs
  pub counts : length u.counts ≡ length s.counts
  pub refs : length u.refs ≡ length s.refs

pub same_lengths : (nos : List ℕ) (coords : List Float) (paths : List ℕ) (n : ℕ) → paths_answer paths n ≡ Answer.Done → (room a b : ℕ) (s u : St)
    → batch nos coords paths room a b s ≡ done u → SameLengths s u
same_lengths nos coords paths n p room a b s u e =
    let c = batch_counted nos coords paths n p room a b s u e in
    record {
      backs = ap length c.backs ∙ length_all paths (map (drawn_at nos coords) (from a (b - a))) s.backs;
      counts = ap length c.moved.counts ∙ length_tally s.counts (tiles_ev (events_of nos coords paths (from a (b - a))));
      refs = ap length c.moved.refs ∙ simp length-sets;
    }

-- ---- what a call checks, of a batch and of the next

module _ (nos : List ℕ) (coords : List Float) (paths : List ℕ) (a b c : ℕ) (h : a ≤ b) (k : b ≤ c) (there : c ≤ length coords / line_floats) where
  pub answer_first : (s : St) → call_answer nos coords paths a b s ≡ call_answer nos coords paths a c s
  unfolding call_answer
  answer_first s =
      rw (le-leb a b h, le-leb b (length coords / line_floats) (omega arith), le-leb a c (omega arith), le-leb c (length coords / line_floats) there)

  answer_next : (s u : St) → SameLengths s u → call_answer nos coords paths b c u ≡ call_answer nos coords paths a c s
  unfolding call_answer
  answer_next s u e = rw (e.backs, e.counts, e.refs, le-leb b c k, le-leb a c (omega arith))

  -- two batches are one, refused or not: the second goes on from the running numbers of the first, and is not run after a refusal
  pub two_batches : (made : ℕ) (bs : List ℤ) (cs rs : List ℕ)
      → counted (running_of a made) c nos coords paths bs cs rs
      ≡ and_told (counted (running_of a made) b nos coords paths bs cs rs) (λ r bs' cs' rs'. counted r c nos coords paths bs' cs' rs')
  unfolding counted
  two_batches made bs cs rs =
      rw (answer_first s) (go (call_answer nos coords paths a c s) refl)
    where
      s : St
      s = st_of bs cs rs made

      room : ℕ
      room = length rs / ref_words

      next : Running → List ℤ → List ℕ → List ℕ → Told
      next r bs' cs' rs' = counted r c nos coords paths bs' cs' rs'

      second : (o : Ran St Refusal) → batch nos coords paths room a b s ≡ o → call_answer nos coords paths a c s ≡ Answer.Done
          → batch_told c (and_then o (batch nos coords paths room b c)) ≡ and_told (batch_told b o) next
      second (refused t why) e f = refl
      second (done t) e f =
          let p = (call_fine nos coords paths a c s f).1 in
          let l = same_lengths nos coords paths (length cs) p room a b s t e in
          let ok : call_answer nos coords paths b c t ≡ Answer.Done = answer_next s t l ∙ f in
          rw (ok, l.refs)

      go : (v : Answer) → call_answer nos coords paths a c s ≡ v
          → call_told v (running_of a made) s (batch_told c (batch nos coords paths room a c s))
          ≡ and_told (call_told v (running_of a made) s (batch_told b (batch nos coords paths room a b s))) next
      go (Answer.Refused n item) f = refl
      go Answer.Done f = rw (batches nos coords paths room a b c s h k) (second (batch nos coords paths room a b s) refl f)

-- what a call that was done hands on
told_done : (a b made : ℕ) (nos : List ℕ) (coords : List Float) (paths : List ℕ) (bs : List ℤ) (cs rs : List ℕ) → (k : Running → List ℤ → List ℕ → List ℕ → Told)
    → (f : Running → List ℤ → List ℕ → List ℕ → Told)
    → ((m : ℕ) (bs' : List ℤ) (cs' rs' : List ℕ) → k (running_of b m) bs' cs' rs' ≡ f (running_of b m) bs' cs' rs')
    → and_told (counted (running_of a made) b nos coords paths bs cs rs) k ≡ and_told (counted (running_of a made) b nos coords paths bs cs rs) f
unfolding counted
told_done a b made nos coords paths bs cs rs k f e =
    go (call_answer nos coords paths a b (st_of bs cs rs made)) (batch nos coords paths (length rs / ref_words) a b (st_of bs cs rs made))
  where
    go : (v : Answer) (o : Ran St Refusal) → and_told (call_told v (running_of a made) (st_of bs cs rs made) (batch_told b o)) k
        ≡ and_told (call_told v (running_of a made) (st_of bs cs rs made) (batch_told b o)) f
    go (Answer.Refused n item) o = refl
    go Answer.Done (done t) = e t.made t.backs t.counts t.refs
    go Answer.Done (refused t why) = refl

pub rising_last : (a : ℕ) (es : List ℕ) → Rising a es → a ≤ last_of a es
rising_last a [] h = omega arith
rising_last a (e ∷ es) h = omega (arith, rising_last e es h.1, h.0)

-- Batches: cut anywhere, empty ones too, the calls one after another leave what one call up to the last end leaves: tiles, references, running
-- numbers, and the first refusal with its line
pub many_batches : (nos : List ℕ) (coords : List Float) (paths : List ℕ) (a e : ℕ) (es : List ℕ) → Rising a (e ∷ es) → last_of e es ≤ length coords / line_floats
    → (made : ℕ) (bs : List ℤ) (cs rs : List ℕ)
    → in_batches (e ∷ es) (running_of a made) nos coords paths bs cs rs ≡ counted (running_of a made) (last_of e es) nos coords paths bs cs rs
unfolding counted
many_batches nos coords paths a e [] h k made bs cs rs =
    go (call_answer nos coords paths a e (st_of bs cs rs made)) (batch nos coords paths (length rs / ref_words) a e (st_of bs cs rs made))
  where
    next : Running → List ℤ → List ℕ → List ℕ → Told
    next r bs' cs' rs' = in_batches [] r nos coords paths bs' cs' rs'

    go : (v : Answer) (o : Ran St Refusal) → and_told (call_told v (running_of a made) (st_of bs cs rs made) (batch_told e o)) next
        ≡ call_told v (running_of a made) (st_of bs cs rs made) (batch_told e o)
    go (Answer.Refused n item) o = refl
    go Answer.Done (done t) = refl
    go Answer.Done (refused t why) = refl
many_batches nos coords paths a e (f ∷ es) h k made bs cs rs =
    told_done a e made nos coords paths bs cs rs (λ r bs' cs' rs'. in_batches (f ∷ es) r nos coords paths bs' cs' rs')
    (λ r bs' cs' rs'. counted r (last_of f es) nos coords paths bs' cs' rs')
    (λ m bs' cs' rs'. many_batches nos coords paths e f es h.1 k m bs' cs' rs')
    ∙ sym (two_batches nos coords paths a e (last_of f es) h.0 (rising_last e (f ∷ es) h.1) k made bs cs rs)

-- ---- tiling

on_range : (r : Range) (p : Pieces) (k f : Pieces → Tiled) → (k (applied r.writes p) ≡ f (applied r.writes p))
    → on_tiled (range_tiled r p).paper (range_tiled r p) k ≡ on_tiled (range_tiled r p).paper (range_tiled r p) f
on_range r p k f e = go r.answer
  where
    go : (v : Answer) → on_tiled (Kinds.paper_of v) (tiled v (applied r.writes p)) k ≡ on_tiled (Kinds.paper_of v) (tiled v (applied r.writes p)) f
    go Answer.Done = e
    go (Answer.Refused n item) = refl

then_on_lem : (r next : Range) (p : Pieces)
    → on_tiled (range_tiled r p).paper (range_tiled r p) (λ p'. range_tiled next p') ≡ range_tiled (then_range r next) p
then_on_lem r next p = go r.answer refl
  where
    go : (v : Answer) → r.answer ≡ v
        → on_tiled (Kinds.paper_of v) (tiled v (applied r.writes p)) (λ p'. range_tiled next p') ≡ range_tiled (then_on v r.writes next) p
    go Answer.Done e = ap (λ (l : Pieces). tiled next.answer l) (sym (act_all_append (λ w. placed w.slot w.segment w.tag) r.writes next.writes p))
    go (Answer.Refused n item) e = refl

-- Ranges: references tiled in ranges, cut anywhere, leave the segments and the answer of one call up to the last end
pub many_ranges : (L : Lent) (a e : ℕ) (es : List ℕ) → Rising a (e ∷ es) → last_of e es ≤ length L.refs / ref_words → (p : Pieces)
    → in_ranges a (e ∷ es) L p ≡ tiled_of a (last_of e es) L p
many_ranges L a e [] h k p = go (call_of a e L p).answer
  where
    go : (v : Answer) → on_tiled (Kinds.paper_of v) (tiled v (applied (call_of a e L p).writes p)) (λ p'. tiled Answer.Done p')
        ≡ tiled v (applied (call_of a e L p).writes p)
    go Answer.Done = refl
    go (Answer.Refused n item) = refl
many_ranges L a e (f ∷ es) h k p =
    let r = call_of a e L p in
    let c = last_of f es in
    on_range r p (λ p'. in_ranges e (f ∷ es) L p') (λ p'. range_tiled (call_of e c L (applied r.writes p)) p')
    (many_ranges L e f es h.1 k (applied r.writes p))
    ∙ then_on_lem r (call_of e c L (applied r.writes p)) p
    ∙ ap (λ (x : Range). range_tiled x p) (sym (calls_join a e c L p h.0 (rising_last e (f ∷ es) h.1) k))
