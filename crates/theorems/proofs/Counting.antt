-- What counting lines leaves, where none is refused: tiles and references by the lines' events, backdrops by their marks. Assumes nothing.
use mathlib.Core.Path.{◌≡◌, refl, sym, ap, ◌∙◌}
use mathlib.Core.List.{List, [], ◌∷◌, ◌++◌, map}
use Prim.Native.Nat.{ℕ, suc, ◌+◌, ◌-◌, ◌*◌, ◌≤◌, ◌<◌, min}
use native.Mathlib.Omega.{arith}
use lib.ListN.{length, get_or, length-append}
use lib.Seq.{sets}
use lib.IntN.{ℤ}
use lib.Ieee.{Float}
use Rattle.lists.specs.Run.{Step, taken, halted, done, run, run_cons_done, All, act_all, all_append}
use Rattle.lists.specs.Sums.{from}
use Rattle.lists.specs.Tally.{tally, slices, tally_append, slices_append, length_slices}
use Rattle.lists.specs.Cells.{sets_append}
use Rattle.lists.specs.Order as Order
use Rattle.panel.specs.Limits.{most_lines, most_slots}
use Rattle.panel.specs.Widths.{ref_words}
use Rattle.panel.specs.Paths.{path_at, path_count, paths_answer}
use Rattle.panel.specs.declared.kinds.Path.{Path}
use Rattle.panel.specs.Answer.{Done}
use Rattle.walk.specs.Lent.{walk_at}
use Rattle.walk.specs.declared.kinds.Walk.{Walk}
use Rattle.walk.specs.Walked.{Walked, Refused, Skipped, Line}
use Rattle.walk.proofs.Walks.{line_told}
use Rattle.acts.specs.Acts.{St, Act, mark, visit, stop}
use Rattle.acts.specs.Line.{plan_acts, at_line, batch_of}
use Rattle.walked_lines.specs.Line.{plan_of, line_step}
use Rattle.path_count.specs.Count.{batch}
use Rattle.theorems.specs.Drawn.{drawn_at, walk_of, acts_by, delta_by, tiles_in, marks_in, tiles_of, marks_of, InPath, OwnLine}
use Rattle.theorems.specs.Events.{Event, EventOwn, events_in, events_at, events_of, tiles_ev, words_ev}
use Rattle.theorems.proofs.Acts.{walk_is, Ran-through, ran_through}
use Rattle.theorems.proofs.Own.{ActOwn, WalkOwn, took}

-- ---- lists of events

pub tiles_ev_lem : (l : ℕ) (xs : List Act) → tiles_ev (events_in l xs) ≡ tiles_in xs
tiles_ev_lem l [] = refl
tiles_ev_lem l (mark t ∷ xs) = tiles_ev_lem l xs
tiles_ev_lem l (visit t i ∷ xs) = ap (λ (r : List ℕ). t ∷ r) (tiles_ev_lem l xs)
tiles_ev_lem l (stop n ∷ xs) = tiles_ev_lem l xs

pub tiles_append : (xs ys : List Event) → tiles_ev (xs ++ ys) ≡ tiles_ev xs ++ tiles_ev ys
tiles_append [] ys = refl
tiles_append (x ∷ xs) ys = ap (λ (r : List ℕ). x.tile ∷ r) (tiles_append xs ys)

pub length_tiles : (xs : List Event) → length (tiles_ev xs) ≡ length xs
length_tiles [] = refl
length_tiles (x ∷ xs) = ap suc (length_tiles xs)

pub length_words : (xs : List Event) (ks : List ℕ) → length ks ≡ length xs → length (words_ev xs ks) ≡ ref_words * length xs
length_words [] ks e = refl
length_words (x ∷ xs) [] e = absurd (omega arith)
length_words (x ∷ xs) (k ∷ ks) e = omega (arith, length_words xs ks (omega arith))

words_append : (xs ys : List Event) (ks ms : List ℕ) → length ks ≡ length xs → words_ev (xs ++ ys) (ks ++ ms) ≡ words_ev xs ks ++ words_ev ys ms
words_append [] ys [] ms e = refl
words_append [] ys (k ∷ ks) ms e = absurd (omega arith)
words_append (x ∷ xs) ys [] ms e = absurd (omega arith)
words_append (x ∷ xs) ys (k ∷ ks) ms e =
    ap (λ (r : List ℕ). x.line ∷ Rattle.acts.specs.Acts.packed k x.step ∷ r) (words_append xs ys ks ms (omega arith))

-- ---- one move after another

-- the events es are counted
pub record Moved (es : List Event) (s u : St) : Type 0 where
  pub made : u.made ≡ s.made + length es
  pub counts : u.counts ≡ tally s.counts (tiles_ev es)
  pub refs : u.refs ≡ sets s.refs (ref_words * s.made) (words_ev es (slices s.counts (tiles_ev es)))

pub moved_append : (xs ys : List Event) (s t u : St) → Moved xs s t → Moved ys t u → Moved (xs ++ ys) s u
moved_append xs ys s t u p q =
    let ks = slices s.counts (tiles_ev xs) in
    let len : length ks ≡ length xs = length_slices s.counts (tiles_ev xs) ∙ length_tiles xs in
    let there : ref_words * s.made + length (words_ev xs ks) ≡ ref_words * t.made = omega (arith, length_words xs ks len, p.made) in
    record {
      made = omega (arith, length-append xs ys, p.made, q.made);
      counts = q.counts ∙ ap (λ (l : List ℕ). tally l (tiles_ev ys)) p.counts ∙ rw (tiles_append, tally_append);
      refs =
          rw (tiles_append, slices_append, words_append xs ys ks _ len, sets_append, ← p.counts, ← p.refs, there) q.refs;
    }

-- ---- a line

-- a line that a batch takes is taken
pub at_taken : (l : ℕ) (o : Step St ℕ) (u : St) → at_line l o ≡ taken u → o ≡ taken u
at_taken l (taken s) u e = let q : s ≡ u = cc in ap taken q
at_taken l (halted n) u e = let z : ◌≡◌ {A = ℕ} 0 1 = cc in absurd (omega arith)

module _ (nos : List ℕ) (coords : List Float) (paths : List ℕ) (tiles : ℕ) (passed : paths_answer paths tiles ≡ Done) where
  own_events_lem : (l : ℕ) (w : Walk) (b : Path) → walk_at nos coords paths l ≡ Line w b → l < most_lines → (xs : List Act) → All (ActOwn w b) xs
      → All (EventOwn nos coords paths) (events_in l xs)
  own_events_lem l w b e h [] o = tt
  own_events_lem l w b e h (mark t ∷ xs) o = own_events_lem l w b e h xs o.1
  own_events_lem l w b e h (visit t i ∷ xs) o =
      let g = line_told nos coords paths l w b e in (
        record { walk = w; box = b; walked = e; box_is = g.path_is; path_in = g.path_in; on = o.0.1; held = o.0.0; step_small = o.0.2; line_small = h },
        own_events_lem l w b e h xs o.1,
      )
  own_events_lem l w b e h (stop n ∷ xs) o = own_events_lem l w b e h xs o.1

  own_tiles : (w : Walk) (b : Path) (p : ℕ) → p < path_count paths → b ≡ path_at paths p → (xs : List Act) → All (ActOwn w b) xs → All (InPath paths p) (tiles_in xs)
  own_tiles w b p k e [] o = tt
  own_tiles w b p k e (mark t ∷ xs) o = own_tiles w b p k e xs o.1
  own_tiles w b p k e (visit t i ∷ xs) o = ((k, rw (← e) o.0.0.0, rw (← e) o.0.0.1), own_tiles w b p k e xs o.1)
  own_tiles w b p k e (stop n ∷ xs) o = own_tiles w b p k e xs o.1

  own_marks : (δ : ℤ) (w : Walk) (b : Path) (p : ℕ) → p < path_count paths → b ≡ path_at paths p → (xs : List Act) → All (ActOwn w b) xs → All (λ m. InPath paths p m.0) (marks_in δ xs)
  own_marks δ w b p k e [] o = tt
  own_marks δ w b p k e (mark t ∷ xs) o = ((k, rw (← e) o.0.0, rw (← e) o.0.1), own_marks δ w b p k e xs o.1)
  own_marks δ w b p k e (visit t i ∷ xs) o = own_marks δ w b p k e xs o.1
  own_marks δ w b p k e (stop n ∷ xs) o = own_marks δ w b p k e xs o.1

  own_line : (l : ℕ) → WalkOwn (walk_at nos coords paths l) → OwnLine paths (drawn_at nos coords l)
  own_line l o = go (walk_at nos coords paths l) refl o
    where
      p : ℕ
      p = get_or nos l 0

      same : walk_at nos coords paths l ≡ walk_of paths (drawn_at nos coords l)
      same = walk_is nos coords paths l

      made : (x : Walked) → walk_at nos coords paths l ≡ x → All (InPath paths p) (tiles_in (acts_by x)) → All (λ m. InPath paths p m.0) (marks_in (delta_by x) (acts_by x))
          → OwnLine paths (drawn_at nos coords l)
      made x e v k =
          let f : walk_of paths (drawn_at nos coords l) ≡ x = sym same ∙ e in
          record { visits = rw f v; marks = rw f k }

      go : (x : Walked) → walk_at nos coords paths l ≡ x → WalkOwn x → OwnLine paths (drawn_at nos coords l)
      go (Refused n) e q = made (Refused n) e tt tt
      go Skipped e q = made Skipped e tt tt
      go (Line w b) e q =
          let g = line_told nos coords paths l w b e in
          made (Line w b) e (own_tiles w b p g.path_in g.path_is (plan_acts (plan_of w b)) q) (own_marks (delta_by (Line w b)) w b p g.path_in g.path_is (plan_acts (plan_of w b)) q)

  -- what a line that is taken did
  pub record Lined (room l : ℕ) (s u : St) : Type 0 where
    pub moved : Moved (events_at nos coords paths l) s u
    pub own : All (EventOwn nos coords paths) (events_at nos coords paths l)
    pub counts : u.counts ≡ tally s.counts (tiles_of paths (drawn_at nos coords l))
    pub backs : u.backs ≡ Order.mark (marks_of paths (drawn_at nos coords l)) s.backs
    pub line : OwnLine paths (drawn_at nos coords l)
    pub fits : s.made ≤ min room most_slots → u.made ≤ min room most_slots

  pub lined : (room l : ℕ) (s u : St) → line_step nos coords paths room l l s ≡ taken u → Lined room l s u
  lined room l s u e =
      let t = took nos coords paths tiles passed room l s u e in
      let x = walk_of paths (drawn_at nos coords l) in
      let r : Ran-through (delta_by x) l (acts_by x) s u = ran_through (delta_by x) l (acts_by x) s u (rw walk_is at t.ran) in
      record {
        moved = record { made = r.made; counts = rw tiles_ev_lem r.counts; refs = rw tiles_ev_lem r.refs };
        own = rw (← walk_is nos coords paths l) (own (walk_at nos coords paths l) refl t.below t.own);
        counts = r.counts;
        backs = r.backs;
        line = own_line l t.own;
        fits = t.fits;
      }
    where
      own : (y : Walked) → walk_at nos coords paths l ≡ y → l < most_lines → WalkOwn y → All (EventOwn nos coords paths) (events_in l (acts_by y))
      own (Refused n) q h o = tt
      own Skipped q h o = tt
      own (Line w b) q h o = own_events_lem l w b q h (plan_acts (plan_of w b)) o

  -- ---- a batch that goes through

  pub record Counted (room : ℕ) (ls : List ℕ) (s u : St) : Type 0 where
    pub moved : Moved (events_of nos coords paths ls) s u
    pub own : All (EventOwn nos coords paths) (events_of nos coords paths ls)
    pub counts : u.counts ≡ act_all (λ d c. tally c (tiles_of paths d)) (map (drawn_at nos coords) ls) s.counts
    pub backs : u.backs ≡ act_all (λ d. Order.mark (marks_of paths d)) (map (drawn_at nos coords) ls) s.backs
    pub lines : All (OwnLine paths) (map (drawn_at nos coords) ls)
    pub fits : s.made ≤ min room most_slots → u.made ≤ min room most_slots

  lines_counted : (room : ℕ) (ls : List ℕ) (s u : St) → run (λ l t. at_line l (line_step nos coords paths room l l t)) ls s ≡ done u → Counted room ls s u
  lines_counted room [] s u e =
      let q : u ≡ s = cc in
      record {
        moved = record { made = omega (arith, ap (λ (t : St). t.made) q); counts = ap (λ (t : St). t.counts) q; refs = ap (λ (t : St). t.refs) q };
        own = tt;
        counts = ap (λ (t : St). t.counts) q;
        backs = ap (λ (t : St). t.backs) q;
        lines = tt;
        fits = λ p. omega (arith, ap (λ (t : St). t.made) q);
      }
  lines_counted room (l ∷ ls) s u e =
      let w = run_cons_done (λ l t. at_line l (line_step nos coords paths room l l t)) l ls s u e in
      let t = w.0 in
      let one = lined room l s t (at_taken l (line_step nos coords paths room l l s) t w.1) in
      let rest = lines_counted room ls t u w.2 in
      record {
        moved = moved_append (events_at nos coords paths l) (events_of nos coords paths ls) s t u one.moved rest.moved;
        own = all_append (EventOwn nos coords paths) (events_at nos coords paths l) (events_of nos coords paths ls) one.own rest.own;
        counts = rest.counts ∙ ap (act_all (λ d c. tally c (tiles_of paths d)) (map (drawn_at nos coords) ls)) one.counts;
        backs = rest.backs ∙ ap (act_all (λ d. Order.mark (marks_of paths d)) (map (drawn_at nos coords) ls)) one.backs;
        lines = (one.line, rest.lines);
        fits = λ p. rest.fits (one.fits p);
      }

  pub batch_counted : (room a b : ℕ) (s u : St) → batch nos coords paths room a b s ≡ done u → Counted room (from a (b - a)) s u
  unfolding batch_of
  batch_counted room a b s u e = lines_counted room (from a (b - a)) s u e
