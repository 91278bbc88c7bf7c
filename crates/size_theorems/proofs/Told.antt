-- What an answer of `sizes` says: its parts, and how the references grow line by line. Assumes nothing.
use mathlib.Core.Path.{◌≡◌, refl, sym, ap, ◌∙◌, subst}
use mathlib.Core.Bool.{Bool, true, false}
use mathlib.Core.List.{List, ◌++◌}
use Prim.Native.Nat.{ℕ, suc, ◌+◌, ◌-◌, ◌≤◌, ◌<◌}
use native.Mathlib.Omega.{arith}
use lib.Dec.{leb, ltb}
use lib.ListN.{length}
use lib.Ieee.{Float}
use borrow.Author.Tests.{lt-leb}
use Rattle.lists.specs.Run.{Step, taken, halted, Ran, done, refused, left, and_then, run, run_append, run_cons_done, run_keeps}
use Rattle.lists.specs.Sums.{from, from_add}
use Rattle.panel.specs.Limits.{most_lines, most_slots}
use Rattle.panel.specs.Refusals.{line_number, count_over, no_room_word}
use Rattle.panel.specs.declared.kinds.Path.{Path}
use Rattle.panel.specs.Answer.{Answer}
use Rattle.walk.specs.Lent.{walk_at}
use Rattle.walk.specs.declared.kinds.Walk.{Walk}
use Rattle.walk.specs.Walked.{Walked, Refused as WalkRefused, Skipped, Line}
use Rattle.acts.specs.Line.{Plan, too_far, Refusal}
use Rattle.walked_lines.specs.Line.{plan_of}
use Rattle.sizes.specs.Refs.{stop_if, plan_size, walked_size, line_size, size_at, lines_size, told_ran, refs_of}
use Rattle.sizes.specs.Words.{tiles_of, words_of}
use Rattle.sizes.specs.Sizes.{call_answer, measured, asked, sizes_of, room_of}
use Rattle.sizes.specs.declared.Room.{Room}
use Rattle.sizes.specs.Measured.{Done}
use Rattle.sizes.proofs.RefLaws.{line_few}

-- ---- an answer that is done

pub record SizesTold (nos : List ℕ) (coords : List Float) (paths : List ℕ) (cols rows : ℕ) (r : Room) : Type 0 where
  pub passed : call_answer (length nos) (length coords) paths cols rows ≡ Answer.Done
  pub lines : lines_size nos coords paths 0 (length nos) 0 ≡ done r.refs
  pub tiles : r.tiles ≡ tiles_of paths
  pub words : r.words ≡ words_of paths cols rows

pub sizes_told : (nos : List ℕ) (coords : List Float) (paths : List ℕ) (cols rows : ℕ) (r : Room) → sizes_of nos coords paths cols rows ≡ Done r
    → SizesTold nos coords paths cols rows r
unfolding sizes_of refs_of
sizes_told nos coords paths cols rows r e = go (call_answer (length nos) (length coords) paths cols rows) refl (lines_size nos coords paths 0 (length nos) 0) refl e
  where
    go : (a : Answer) → call_answer (length nos) (length coords) paths cols rows ≡ a → (o : Ran ℕ Refusal) → lines_size nos coords paths 0 (length nos) 0 ≡ o
        → asked a (measured (told_ran o) (tiles_of paths) (words_of paths cols rows)) ≡ Done r → SizesTold nos coords paths cols rows r
    go Answer.Done f (done m) g q =
        let s : room_of (tiles_of paths) m (words_of paths cols rows) ≡ r = cc in
        record {
          passed = f;
          lines = g ∙ ap (λ (x : Room). done x.refs) s;
          tiles = sym (ap (λ (x : Room). x.tiles) s);
          words = sym (ap (λ (x : Room). x.words) s);
        }
    go Answer.Done f (refused m why) g q = let z : ◌≡◌ {A = ℕ} 0 1 = cc in absurd (omega arith)
    go (Answer.Refused n item) f o g q = let z : ◌≡◌ {A = ℕ} 0 1 = cc in absurd (omega arith)

-- ---- line by line

module _ (nos : List ℕ) (coords : List Float) (paths : List ℕ) where
  abbrev step : ℕ → ℕ → Step ℕ Refusal
  step l m = size_at l (line_size nos coords paths l m)

  -- a walk that is taken has its steps' references more
  plan_adds : (p : Plan) (made m : ℕ) → plan_size p made ≡ taken m → m ≡ made + (p.imax - p.imin)
  unfolding plan_size
  plan_adds p made m e = go (too_far p) (ltb most_slots (made + (p.imax - p.imin))) e
    where
      go : (a b : Bool) → stop_if a count_over (stop_if b no_room_word (taken (made + (p.imax - p.imin)))) ≡ taken m → m ≡ made + (p.imax - p.imin)
      go true b q = let z : ◌≡◌ {A = ℕ} 0 1 = cc in absurd (omega arith)
      go false true q = let z : ◌≡◌ {A = ℕ} 0 1 = cc in absurd (omega arith)
      go false false q = cc

  pub walk_adds : (l : ℕ) (w : Walk) (b : Path) (made m : ℕ) → l < most_lines → walk_at nos coords paths l ≡ Line w b → line_size nos coords paths l made ≡ taken m
      → m ≡ made + ((plan_of w b).imax - (plan_of w b).imin)
  unfolding line_size
  walk_adds l w b made m h f e = plan_adds (plan_of w b) made m (rw (lt-leb most_lines l h, f) at e)

  grows : (l made m : ℕ) → line_size nos coords paths l made ≡ taken m → made ≤ m
  unfolding line_size
  grows l made m e = go (leb most_lines l) (walk_at nos coords paths l) e
    where
      go : (a : Bool) (x : Walked) → stop_if a line_number (walked_size x made) ≡ taken m → made ≤ m
      go true x q = let z : ◌≡◌ {A = ℕ} 0 1 = cc in absurd (omega arith)
      go false (WalkRefused n) q = let z : ◌≡◌ {A = ℕ} 0 1 = cc in absurd (omega arith)
      go false Skipped q = let s : made ≡ m = cc in omega arith
      go false (Line w b) q = omega (arith, plan_adds (plan_of w b) made m q)

  at_taken : (l : ℕ) (o : Step ℕ ℕ) (m : ℕ) → size_at l o ≡ taken m → o ≡ taken m
  at_taken l (taken k) m e = let q : k ≡ m = cc in ap taken q
  at_taken l (halted n) m e = let z : ◌≡◌ {A = ℕ} 0 1 = cc in absurd (omega arith)

  -- never over the limit
  pub lines_few : (a b m : ℕ) → lines_size nos coords paths a b 0 ≡ done m → m ≤ most_slots
  unfolding lines_size
  lines_few a b m e =
      subst (λ (o : Ran ℕ Refusal). left o ≤ most_slots) e
      (run_keeps step (λ k. k ≤ most_slots) (λ l k k' h q. line_few nos coords paths l k k' h (at_taken l (line_size nos coords paths l k) k' q)) (from a (b - a)) 0 (omega arith))

  -- where the lines before line l are taken, and all are: so is line l, with no more references than all have
  pub line_within : (l n m all : ℕ) → l < n → lines_size nos coords paths 0 l 0 ≡ done m → lines_size nos coords paths 0 n 0 ≡ done all
      → (k : ℕ) × (line_size nos coords paths l m ≡ taken k) × (k ≤ all)
  unfolding lines_size
  line_within l n m all h e f =
      let cut : n - 0 ≡ (l - 0) + suc (n - suc l) = omega arith in
      let here : 0 + (l - 0) ≡ l = omega arith in
      let whole : run step (from 0 (l - 0) ++ from (0 + (l - 0)) (suc (n - suc l))) 0 ≡ done all =
      ap (λ (xs : List ℕ). run step xs 0) (sym (from_add 0 (l - 0) (suc (n - suc l)))) ∙ ap (λ (k : ℕ). run step (from 0 k) 0) (sym cut) ∙ f in
      let rest : run step (from (0 + (l - 0)) (suc (n - suc l))) m ≡ done all =
      ap (λ (o : Ran ℕ Refusal). and_then o (run step (from (0 + (l - 0)) (suc (n - suc l))))) (sym e)
      ∙ sym (run_append step (from 0 (l - 0)) (from (0 + (l - 0)) (suc (n - suc l))) 0) ∙ whole in
      let w = run_cons_done step l (from (suc l) (n - suc l)) m all (rw here at rest) in
      let g : w.0 ≤ all =
      subst (λ (o : Ran ℕ Refusal). w.0 ≤ left o) {x = run step (from (suc l) (n - suc l)) w.0} w.2
      (run_keeps step (λ k. w.0 ≤ k) (λ j k k' p q. omega (arith, p, grows j k k' (at_taken j (line_size nos coords paths j k) k' q))) (from (suc l) (n - suc l)) w.0 (omega arith)) in
      (w.0, at_taken l (line_size nos coords paths l m) w.0 w.1, g)
