-- A count that goes through goes through with more room for references, and whatever list is lent for them: backdrops, counts and the number of
-- references come out the same. Assumes nothing.
use mathlib.Core.Path.{◌≡◌, refl, ap, ◌∙◌}
use mathlib.Core.Bool.{Bool, true, false}
use mathlib.Core.List.{List, [], ◌∷◌}
use Prim.Native.Nat.{ℕ, ◌+◌, ◌-◌, ◌≤◌, min}
use native.Mathlib.Omega.{arith}
use lib.Dec.{leb, ltb}
use lib.ListN.{get_or}
use lib.IntN.{ℤ, pos, ◌+ℤ◌}
use lib.Ieee.{Float}
use borrow.Author.Tests.{le-ltb}
use Rattle.lists.specs.Run.{Step, taken, Ran, done, on_step, run, run_cons_done, all_or_none}
use Rattle.lists.specs.Sums.{from}
use Rattle.panel.specs.Limits.{most_lines, most_count, most_slots}
use Rattle.panel.specs.Refusals.{count_over, line_number, no_room_word, sum_over}
use Rattle.panel.specs.Signed.{in_i32}
use Rattle.panel.specs.Refs.{packed, put_ref}
use Rattle.walk.specs.Lent.{walk_at}
use Rattle.walk.specs.Walked.{Walked, Refused, Skipped, Line}
use Rattle.acts.specs.Acts.{St, st_of, Act, mark, visit, stop, marked, visited, take_if, run_acts, delta_of}
use Rattle.acts.specs.Line.{Plan, plan_acts, halt_if, too_far, plan_step, at_line, batch_of}
use Rattle.acts.proofs.Whole.{no_stop, plan_taken}
use Rattle.walked_lines.specs.Line.{plan_of, walked_step, line_step}
use Rattle.path_count.specs.Count.{batch}
use Rattle.check_theorems.proofs.Lines.{at_taken}

-- the same with another list of references
abbrev pub with_refs : List ℕ → St → St
with_refs r s = st_of s.backs s.counts r s.made

act_taken : (b : Bool) (s t : St) (n : ℕ) (k : St → Ran St ℕ) (u : St) → on_step (take_if b t n) s k ≡ done u → (b ≡ true) × (k t ≡ done u)
act_taken true s t n k u e = (refl, e)
act_taken false s t n k u e = let z : ◌≡◌ {A = ℕ} 0 1 = cc in absurd (omega arith)

act_goes : (b : Bool) (s t : St) (n : ℕ) (k : St → Ran St ℕ) (o : Ran St ℕ) → b ≡ true → k t ≡ o → on_step (take_if b t n) s k ≡ o
act_goes b s t n k o h e = rw h e

module _ (δ : ℤ) (l : ℕ) where
  acts_alike : (xs : List Act) (s u : St) (r : List ℕ) → run_acts δ l xs s ≡ done u → (r' : List ℕ) × (run_acts δ l xs (with_refs r s) ≡ done (with_refs r' u))
  unfolding run_acts
  acts_alike [] s u r e = let q : s ≡ u = cc in (r, ap (λ (x : St). done (with_refs r x)) q)
  acts_alike (mark t ∷ xs) s u r e =
      let k = act_taken (in_i32 (get_or s.backs t (pos 0) +ℤ δ)) s (marked δ t s) sum_over (run_acts δ l xs) u e in
      let w = acts_alike xs (marked δ t s) u r k.1 in
      (w.0, act_goes (in_i32 (get_or s.backs t (pos 0) +ℤ δ)) (with_refs r s) (with_refs r (marked δ t s)) sum_over (run_acts δ l xs) (done (with_refs w.0 u)) k.0 w.1)
  acts_alike (visit t i ∷ xs) s u r e =
      let k = act_taken (ltb (get_or s.counts t 0) most_count) s (visited l t i s) count_over (run_acts δ l xs) u e in
      let r'' = put_ref s.made l (packed (get_or s.counts t 0) i) r in
      let w = acts_alike xs (visited l t i s) u r'' k.1 in
      (w.0, act_goes (ltb (get_or s.counts t 0) most_count) (with_refs r s) (with_refs r'' (visited l t i s)) count_over (run_acts δ l xs) (done (with_refs w.0 u)) k.0 w.1)
  acts_alike (stop n ∷ xs) s u r e = absurd (no_stop s u n e)

go_on : (b : Bool) (n : ℕ) (o : Step St ℕ) (u : St) → halt_if b n o ≡ taken u → (b ≡ false) × (o ≡ taken u)
go_on false n o u e = (refl, e)
go_on true n o u e = let z : ◌≡◌ {A = ℕ} 0 1 = cc in absurd (omega arith)

not_halted : (b : Bool) (n : ℕ) (o v : Step St ℕ) → b ≡ false → o ≡ v → halt_if b n o ≡ v
not_halted b n o v h e = rw h e

module _ (room more : ℕ) (roomy : min room most_slots ≤ min more most_slots) where
  plan_alike : (l : ℕ) (p : Plan) (s u : St) (r : List ℕ) → plan_step room l p s ≡ taken u → (r' : List ℕ) × (plan_step more l p (with_refs r s) ≡ taken (with_refs r' u))
  unfolding plan_step
  plan_alike l p s u r e =
      let a = go_on (too_far p) count_over _ u e in
      let t = plan_taken room l p s u e in
      let w = acts_alike (delta_of p.up) l (plan_acts p) s u r t.0 in
      let fits : ltb (min more most_slots) (s.made + (p.imax - p.imin)) ≡ false = le-ltb (min more most_slots) (s.made + (p.imax - p.imin)) (omega (arith, t.1)) in
      (w.0, not_halted (too_far p) count_over _ _ a.0 (not_halted (ltb (min more most_slots) (s.made + (p.imax - p.imin))) no_room_word _ _ fits (ap all_or_none w.1)))

  walked_alike : (l : ℕ) (x : Walked) (s u : St) (r : List ℕ) → walked_step room l x s ≡ taken u → (r' : List ℕ) × (walked_step more l x (with_refs r s) ≡ taken (with_refs r' u))
  walked_alike l (Refused n) s u r e = let z : ◌≡◌ {A = ℕ} 0 1 = cc in absurd (omega arith)
  walked_alike l Skipped s u r e = let q : s ≡ u = cc in (r, ap (λ (x : St). taken (with_refs r x)) q)
  walked_alike l (Line w b) s u r e = plan_alike l (plan_of w b) s u r e

  module _ (nos : List ℕ) (coords : List Float) (paths : List ℕ) where
    line_alike : (l : ℕ) (s u : St) (r : List ℕ) → line_step nos coords paths room l l s ≡ taken u
        → (r' : List ℕ) × (line_step nos coords paths more l l (with_refs r s) ≡ taken (with_refs r' u))
    unfolding line_step
    line_alike l s u r e =
        let a = go_on (leb most_lines l) line_number (walked_step room l (walk_at nos coords paths l) s) u e in
        let w = walked_alike l (walk_at nos coords paths l) s u r a.1 in
        (w.0, not_halted (leb most_lines l) line_number (walked_step more l (walk_at nos coords paths l) (with_refs r s)) (taken (with_refs w.0 u)) a.0 w.1)

    lines_alike : (ls : List ℕ) (s u : St) (r : List ℕ) → run (λ l t. at_line l (line_step nos coords paths room l l t)) ls s ≡ done u
        → (r' : List ℕ) × (run (λ l t. at_line l (line_step nos coords paths more l l t)) ls (with_refs r s) ≡ done (with_refs r' u))
    lines_alike [] s u r e = let q : s ≡ u = cc in (r, ap (λ (x : St). done (with_refs r x)) q)
    lines_alike (l ∷ ls) s u r e =
        let w = run_cons_done (λ l t. at_line l (line_step nos coords paths room l l t)) l ls s u e in
        let a = line_alike l s w.0 r (at_taken l (line_step nos coords paths room l l s) w.0 w.1) in
        let b = lines_alike ls w.0 u a.0 w.2 in (
          b.0,
          ap (λ (o : Step St ℕ). on_step (at_line l o) (with_refs r s) (run (λ l t. at_line l (line_step nos coords paths more l l t)) ls)) a.1 ∙ b.1,
        )

    pub batch_alike : (a b : ℕ) (s u : St) (r : List ℕ) → batch nos coords paths room a b s ≡ done u
        → (r' : List ℕ) × (batch nos coords paths more a b (with_refs r s) ≡ done (with_refs r' u))
    unfolding batch_of
    batch_alike a b s u r e = lines_alike (from a (b - a)) s u r e
