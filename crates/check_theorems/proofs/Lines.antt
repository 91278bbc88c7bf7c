-- The references of all lines, where none is refused, beside what is made of their steps: a line's references stand together, after those of the lines
-- before it. So a line and a step tell the place among all references. Assumes nothing.
use mathlib.Core.Path.{◌≡◌, refl, sym, ap, subst, ◌∙◌}
use mathlib.Core.Bool.{Bool, true, false, cond}
use mathlib.Core.List.{List, [], ◌∷◌, ◌++◌, append_assoc}
use Prim.Native.Nat.{ℕ, zero, suc, ◌+◌, ◌-◌, ◌≤◌, ◌<◌}
use native.Mathlib.Nat.{eq-or-lt_of_le, zero-add}
use native.Mathlib.Decide.{dec_lt}
use native.Mathlib.Omega.{arith}
use mathlib.Core.Logic.{⊎_elim}
use lib.Dec.{ltb}
use lib.ListN.{length, length-append, get_or-append}
use lib.Seq.{get_or-append-add}
use lib.Ieee.{Float}
use borrow.Author.Tests.{ltb-true, lt-ltb}
use Rattle.lists.specs.Run.{Step, taken, halted, done, run, run_cons_done, All}
use Rattle.lists.specs.Sums.{from, from_add}
use Rattle.panel.specs.Paths.{paths_answer}
use Rattle.panel.specs.Answer.{Done}
use Rattle.walk.specs.Lent.{walk_at}
use Rattle.acts.specs.Acts.{St}
use Rattle.acts.specs.Line.{at_line, batch_of}
use Rattle.walked_lines.specs.Line.{line_step}
use Rattle.path_count.specs.Count.{batch}
use Rattle.made.specs.Made.{walk_made, made_of}
use Rattle.made.specs.MadeAt.{At, Not}
use Rattle.theorems.specs.Drawn.{drawn_at, walk_of, acts_by, delta_by}
use Rattle.theorems.specs.Events.{Event, events_at, events_of}
use Rattle.theorems.proofs.Acts.{walk_is}
use Rattle.theorems.proofs.Own.{took}
use Rattle.theorems.proofs.SumLaws.{no_event, event_at}
use Rattle.check_theorems.proofs.Steps.{Goes, ran_goes, event, walk_event, walk_made_lem}

all_from : (P : ℕ → Type 0) (a n l : ℕ) → All P (from a n) → a ≤ l → l < a + n → P l
all_from P a zero l p h k = absurd (omega arith)
all_from P a (suc n) l p h k =
    ⊎_elim (λ (q : a ≡ l). subst P q p.0) (λ (q : a < l). all_from P (suc a) n l p.1 (omega arith) (omega arith)) (eq-or-lt_of_le h)

pub at_taken : (l : ℕ) (o : Step St ℕ) (u : St) → at_line l o ≡ taken u → o ≡ taken u
at_taken l (taken s) u e = let q : s ≡ u = cc in ap taken q
at_taken l (halted n) u e = let z : ◌≡◌ {A = ℕ} 0 1 = cc in absurd (omega arith)

module _ (nos : List ℕ) (coords : List Float) (paths : List ℕ) where
  -- no step of line l is refused
  abbrev pub LineGoes : ℕ → Type 0
  LineGoes l = All Goes (acts_by (walk_of paths (drawn_at nos coords l)))

  lines_go : (tiles : ℕ) → paths_answer paths tiles ≡ Done → (room : ℕ) (ls : List ℕ) (s u : St)
      → run (λ l t. at_line l (line_step nos coords paths room l l t)) ls s ≡ done u → All LineGoes ls
  lines_go tiles passed room [] s u e = tt
  lines_go tiles passed room (l ∷ ls) s u e =
      let w = run_cons_done (λ l t. at_line l (line_step nos coords paths room l l t)) l ls s u e in
      let t = took nos coords paths tiles passed room l s w.0 (at_taken l (line_step nos coords paths room l l s) w.0 w.1) in
      let x = walk_of paths (drawn_at nos coords l) in
      (ran_goes (delta_by x) l (acts_by x) s w.0 (rw walk_is at t.ran), lines_go tiles passed room ls w.0 u w.2)

  pub batch_goes : (tiles : ℕ) → paths_answer paths tiles ≡ Done → (room b : ℕ) (s u : St) → batch nos coords paths room 0 b s ≡ done u
      → (l : ℕ) → l < b → LineGoes l
  unfolding batch_of
  batch_goes tiles passed room b s u e l h =
      all_from LineGoes 0 (b - 0) l (lines_go tiles passed room (from 0 (b - 0)) s u e) (omega arith) (omega arith)

  -- ---- where a line's references begin

  abbrev pub all_events : ℕ → List Event
  all_events n = events_of nos coords paths (from 0 n)

  unfoldable pub line_start : ℕ → ℕ
  line_start l = length (all_events l)

  events_append : (xs ys : List ℕ) → events_of nos coords paths (xs ++ ys) ≡ events_of nos coords paths xs ++ events_of nos coords paths ys
  events_append [] ys = refl
  events_append (x ∷ xs) ys =
      ap (λ (r : List Event). events_at nos coords paths x ++ r) (events_append xs ys)
      ∙ sym (append_assoc (events_at nos coords paths x) (events_of nos coords paths xs) (events_of nos coords paths ys))

  -- the references of the lines before l, of l, and of j lines after it
  split : (l j : ℕ) → all_events (l + suc j) ≡ all_events l ++ (events_at nos coords paths l ++ events_of nos coords paths (from (suc l) j))
  split l j =
      ap (events_of nos coords paths) (from_add 0 l (suc j)) ∙ events_append (from 0 l) (from (0 + l) (suc j))
      ∙ ap (λ (k : ℕ). all_events l ++ events_of nos coords paths (from k (suc j))) (zero-add l)

  -- reference i of line l
  pub at_line_lem : (n l i : ℕ) → l < n → i < length (events_at nos coords paths l)
      → (line_start l + i < length (all_events n)) × (event_at (all_events n) (line_start l + i) ≡ event_at (events_at nos coords paths l) i)
  unfolding line_start
  at_line_lem n l i h k =
      let j = n - suc l in
      let e : n ≡ l + suc j = omega arith in
      let rest = events_of nos coords paths (from (suc l) j) in
      rw (e, split l j) (
        omega (arith, length-append (all_events l) (events_at nos coords paths l ++ rest), length-append (events_at nos coords paths l) rest),
        get_or-append-add (all_events l) (events_at nos coords paths l ++ rest) i no_event ∙ get_or-append (events_at nos coords paths l) rest no_event i k,
      )

  -- every reference is one of a line's
  pub record OfLine (n i : ℕ) : Type 0 where
    pub line : ℕ
    pub place : ℕ
    pub among : line < n
    pub within : place < length (events_at nos coords paths line)
    pub key : line_start line + place ≡ i

  one_more : (n : ℕ) → length (all_events (suc n)) ≡ line_start n + length (events_at nos coords paths n)
  unfolding line_start
  one_more n =
      let e : suc n ≡ n + 1 = omega arith in
      ap (λ (k : ℕ). length (all_events k)) e ∙ ap length (split n 0)
      ∙ omega (arith, length-append (all_events n) (events_at nos coords paths n ++ []), length-append (events_at nos coords paths n) [])

  pub of_line : (n i : ℕ) → i < length (all_events n) → OfLine n i
  unfolding line_start
  of_line zero i h = absurd (omega arith)
  of_line (suc n) i h = go (of_line n i) (dec_lt i (length (all_events n)))
    where
      go : (i < length (all_events n) → OfLine n i) → Dec (i < length (all_events n)) → OfLine (suc n) i
      go ih (yes q) = let w = ih q in record { line = w.line; place = w.place; among = omega (arith, w.among); within = w.within; key = w.key }
      go ih (no q) =
          record { line = n; place = i - line_start n; among = omega arith; within = omega (arith, one_more n); key = omega arith }

  -- ---- what is made of a step, and its place among all references

  module _ (n : ℕ) (short : n ≡ length nos) (goes : (l : ℕ) → l < n → LineGoes l) where
    pub made_there : (l k i t : ℕ) → made_of nos coords paths l k ≡ At i t → (l < n) × (walk_made (walk_of paths (drawn_at nos coords l)) k ≡ At i t)
    unfolding made_of
    made_there l k i t e = go (ltb l (length nos)) refl e
      where
        go : (b : Bool) → ltb l (length nos) ≡ b → cond b (walk_made (walk_at nos coords paths l) k) Not ≡ At i t → (l < n) × (walk_made (walk_of paths (drawn_at nos coords l)) k ≡ At i t)
        go true q f = (omega (arith, ltb-true l (length nos) q), rw (← walk_is nos coords paths l) f)
        go false q f = let z : ◌≡◌ {A = ℕ} 0 1 = cc in absurd (omega arith)

    -- a step that is made is the reference at its key
    pub made_event : (l k i t : ℕ) → made_of nos coords paths l k ≡ At i t
        → (line_start l + i < length (all_events n)) × (event_at (all_events n) (line_start l + i) ≡ event l t k)
    made_event l k i t e =
        let w = made_there l k i t e in
        let g = walk_event l (walk_of paths (drawn_at nos coords l)) (goes l w.0) k i t w.1 in
        let a = at_line_lem n l i w.0 g.0 in
        (a.0, a.1 ∙ g.1)

    -- and each reference is a step that is made
    pub record StepMade (j : ℕ) (e : Event) : Type 0 where
      pub before : ℕ
      pub among : e.line < n
      pub made : made_of nos coords paths e.line e.step ≡ At before e.tile
      pub key : line_start e.line + before ≡ j

    pub event_made : (j : ℕ) → j < length (all_events n) → StepMade j (event_at (all_events n) j)
    unfolding made_of
    event_made j h =
        let o = of_line n j h in
        let l = o.line in
        let x = walk_of paths (drawn_at nos coords l) in
        let a = at_line_lem n l o.place o.among o.within in
        let e : event_at (all_events n) j ≡ event_at (events_at nos coords paths l) o.place = ap (event_at (all_events n)) (sym o.key) ∙ a.1 in
        let g = walk_made_lem l x (goes l o.among) o.place o.within in
        rw e
        record {
          before = o.place;
          among = rw g.0 o.among;
          made = rw (g.0, lt-ltb l (length nos) (omega (arith, o.among)), walk_is nos coords paths l) g.1;
          key = rw g.0 o.key;
        }
