-- A range, run by run: what is left from the run's end on, on the segments and tags as it leaves them, is what the whole range comes to. Assumes
-- nothing.
--     run_range                      a range is its first run and then the rest
--     next_one, next_run             what is taken of a range at once: its first reference, or its first run
--     on, halted, done               a turn of the loop over a range
use Prim.Native.Nat.{ℕ, zero, suc, ◌+◌, ◌-◌, ◌≤◌, ◌<◌}
use native.Mathlib.Omega.{arith}
use native.Mathlib.Numerals.{add-one}
use mathlib.Core.Path.{◌≡◌, refl, sym, ap, subst, ◌∙◌}
use mathlib.Core.Bool.{Bool, true, false, cond}
use lib.ListN.{length}
use lib.Dec.{eqb}
use borrow.Author.Tests.{eqb-true, eq-eqb}
use Rattle.panel.specs.Pieces.{Pieces, placed}
use Rattle.panel.specs.Answer.{Answer, Done, Refused}
use Rattle.panel.specs.Verdict as Verdict
use Rattle.looks.specs.Look.{Lent, line_at, packed_at, tag_of, found_of, found_to, look_of}
use Rattle.looks.specs.One.{One, one, one_of}
use Rattle.looks.specs.Looked.{Look, Put, Empty, Against}
use Rattle.looks.proofs.FoundLaws.{look_is}
use Rattle.looks.proofs.OneLaws.{AsLong, long_then, one_long}
use Rattle.line_runs.specs.Runs.{Run, run, look_on, run_of, line_run}
use Rattle.line_runs.proofs.RunLaws.{run_goes, run_some}
use Rattle.path_tiling.specs.Tiling.{Range, look_then_word, range_of, tiled, range_tiled, slots_of}
use Rattle.path_tiling.specs.Runs.{after_by, after, NextMet}
use Rattle.path_tiling.proofs.RangeLaws.{ends}

module _ (L : Lent) (slots line : ℕ) where
  -- a reference of the run, and then what is left after the rest of it
  look_after : (to k tag : ℕ) → tag_of L (line_at L.refs k) ≡ tag → (l : Look) (r : Range) (rest : Pieces → Run) (p : Pieces)
      → ((q : Pieces) → range_tiled r q ≡ after L slots to (rest q)) → range_tiled (look_then_word L k l r) p ≡ after L slots to (look_on tag k l rest p)
  look_after to k tag e (Put slot s) r rest p h = ap (λ (n : ℕ). range_tiled r (placed slot.0 s n p)) e ∙ h (placed slot.0 s tag p)
  look_after to k tag e Empty r rest p h = h p
  look_after to k tag e (Against why) r rest p h = refl

  pub run_range : (n k : ℕ) (p : Pieces)
      → range_tiled (range_of L slots n k) p
      ≡ after L slots (k + n) (run_of L.stored slots L.refs (found_of L.path_nos L.coords L.paths line) (tag_of L line) line n k p)
  unfolding range_of run_of
  run_range zero k p = let none : k + 0 - k ≡ 0 = omega arith in rw none refl
  run_range (suc n) k p = go (λ q. run_range n (suc k) q) (eqb (line_at L.refs k) line) refl
    where
      rest : Pieces → Run
      rest = run_of L.stored slots L.refs (found_of L.path_nos L.coords L.paths line) (tag_of L line) line n (suc k)

      go : ((q : Pieces) → range_tiled (range_of L slots n (suc k)) q ≡ after L slots (suc k + n) (rest q)) → (t : Bool) → eqb (line_at L.refs k) line ≡ t
          → range_tiled (look_then_word L k (look_of L slots k) (range_of L slots n (suc k))) p
          ≡ after L slots (k + suc n)
          (cond t (look_on (tag_of L line) k (found_to L.stored slots (packed_at L.refs k) (found_of L.path_nos L.coords L.paths line)) rest p) (run Done k p))
      go h true e =
          let same : suc k + n ≡ k + suc n = omega arith in
          let named : line_at L.refs k ≡ line = eqb-true _ _ e in
          let found : look_of L slots k ≡ found_to L.stored slots (packed_at L.refs k) (found_of L.path_nos L.coords L.paths line) =
          look_is L slots k ∙ ap (λ (l : ℕ). found_to L.stored slots (packed_at L.refs k) (found_of L.path_nos L.coords L.paths l)) named in
          ap (λ (l : Look). range_tiled (look_then_word L k l (range_of L slots n (suc k))) p) found
          ∙ look_after (k + suc n) k (tag_of L line) (ap (λ (l : ℕ). tag_of L l) named)
          (found_to L.stored slots (packed_at L.refs k) (found_of L.path_nos L.coords L.paths line))
          (range_of L slots n (suc k)) rest p (λ q. rw same at (h q))
      go h false e = let left : k + suc n - k ≡ suc n = omega arith in rw left refl

-- what holds at each turn of the loop over a range
pub record Going (from to : ℕ) (L : Lent) (slots : ℕ) (p₀ p : Pieces) (k : ℕ) : Type 0 where
  pub low : from ≤ k
  pub high : k ≤ to
  pub long : AsLong p₀ p
  pub left : range_tiled (range_of L slots (to - k) k) p ≡ range_tiled (range_of L slots (to - from) from) p₀

-- some of the references from reference k on
module _ (to : ℕ) (L : Lent) (slots : ℕ) (p : Pieces) (k : ℕ) where
  abbrev run_at : Run
  run_at = line_run L slots (line_at L.refs k) to k p

  -- the run of those that name its line
  pub next_run : (r : Run) → k < to → r ≡ run_at → NextMet k to L slots p r
  next_run r h e =
      let found = found_of L.path_nos L.coords L.paths (line_at L.refs k) in
      let tag = tag_of L (line_at L.refs k) in
      let far = run_goes L.stored slots L.refs found tag (line_at L.refs k) (to - k) k p in
      let next : r.next ≡ run_at.next = ap (λ (x : Run). x.next) e in
      let as_long : AsLong p r.pieces = subst (AsLong p) (sym (ap (λ (x : Run). x.pieces) e)) far.long in
      let some : r.answer ≡ Done → k < run_at.next =
      λ a. run_some L.stored slots L.refs found tag (line_at L.refs k) (to - k) k p (eq-eqb (line_at L.refs k) (line_at L.refs k) refl) (omega arith)
      (sym (ap (λ (x : Run). x.answer) e) ∙ a) in
      let end : k + (to - k) ≡ to = omega arith in
      record {
        less = λ a. omega (arith, next, some a);
        high = omega (arith, far.high, next);
        segments = as_long.segments;
        tags = as_long.tags;
        left = ap (after L slots to) e ∙ sym (rw end at (run_range L slots (line_at L.refs k) (to - k) k p));
      }

  fine_then : (l : Look) (r : Range) (p' : Pieces) → one Verdict.Fine p' ≡ one_of (tag_of L (line_at L.refs k)) l p
      → range_tiled r p' ≡ range_tiled (look_then_word L k l r) p
  fine_then (Put slot s) r p' e = ap (λ (o : One). range_tiled r o.pieces) e
  fine_then Empty r p' e = ap (λ (o : One). range_tiled r o.pieces) e
  fine_then (Against why) r p' e =
      let v : Verdict.Fine ≡ Verdict.Against why = ap (λ (o : One). o.verdict) e in
      let z : ◌≡◌ {A = ℕ} 0 1 = cc in absurd (omega arith)

  range_suc : (n : ℕ) → range_of L slots (suc n) k ≡ look_then_word L k (look_of L slots k) (range_of L slots n (suc k))
  unfolding range_of
  range_suc n = refl

  -- the first alone, which is fine
  pub next_one : (p' : Pieces) → k < to → one Verdict.Fine p' ≡ one_of (tag_of L (line_at L.refs k)) (look_of L slots k) p
      → NextMet k to L slots p (run Done (k + 1) p')
  next_one p' h e =
      let one_more : to - k ≡ suc (to - suc k) = omega arith in
      let as_long = one_long (tag_of L (line_at L.refs k)) (look_of L slots k) Verdict.Fine p p' e in
      let left : range_tiled (range_of L slots (to - (k + 1)) (k + 1)) p' ≡ range_tiled (range_of L slots (to - k) k) p =
      rw (one_more, add-one, range_suc (to - suc k)) (fine_then (look_of L slots k) (range_of L slots (to - suc k) (suc k)) p' e) in
      record { less = λ a. omega arith; high = omega arith; segments = as_long.segments; tags = as_long.tags; left = left }

-- a turn of the loop over a range
module _ (from to : ℕ) (L : Lent) (slots : ℕ) (p₀ p : Pieces) (k : ℕ) (g : Going from to L slots p₀ p k) where
  whole : slots ≡ slots_of (length p₀.segments)
      → range_tiled (range_of L slots (to - from) from) p₀ ≡ range_tiled (range_of L (slots_of (length p₀.segments)) (to - from) from) p₀
  whole s = ap (λ (n : ℕ). range_tiled (range_of L n (to - from) from) p₀) s

  pub halted : (r : Run) (why item : ℕ) → NextMet k to L slots p r → r.answer ≡ Refused why item → slots ≡ slots_of (length p₀.segments)
      → tiled (Refused why item) r.pieces ≡ range_tiled (range_of L (slots_of (length p₀.segments)) (to - from) from) p₀
  halted r why item m a s =
      let here : after L slots to r ≡ tiled (Refused why item) r.pieces = ap (λ (x : Answer). after_by L slots to x r.next r.pieces) a in
      sym here ∙ m.left ∙ g.left ∙ whole s

  pub on : (r : Run) → NextMet k to L slots p r → r.answer ≡ Done → Going from to L slots p₀ r.pieces r.next
  on r m a =
      let here : after L slots to r ≡ range_tiled (range_of L slots (to - r.next) r.next) r.pieces = ap (λ (x : Answer). after_by L slots to x r.next r.pieces) a in
      record {
        low = omega (arith, m.less a, g.low);
        high = m.high;
        long = long_then g.long (record { segments = m.segments; tags = m.tags });
        left = sym here ∙ m.left ∙ g.left;
      }

  pub done : to ≤ k → slots ≡ slots_of (length p₀.segments) → tiled Done p ≡ range_tiled (range_of L (slots_of (length p₀.segments)) (to - from) from) p₀
  done h s = sym (ends L slots to k p h) ∙ g.left ∙ whole s
