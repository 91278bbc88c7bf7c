-- Where the references of each line begin in our own count, and that no more are counted than made.
-- Assumes nothing.
use mathlib.Core.Path.{◌≡◌, refl, sym, ap, ◌∙◌, subst}
use mathlib.Core.Bool.{Bool, true, false, cond, ◌&&◌}
use mathlib.Core.Logic.{◌⊎◌, inl, inr}
use mathlib.Core.List.{List, [], ◌++◌}
use Prim.Native.Nat.{ℕ, zero, suc, ◌+◌, ◌-◌, ◌≤◌, ◌<◌}
use native.Mathlib.Omega.{arith}
use lib.Dec.{ltb, leb}
use lib.ListN.{length, get_or, set}
use lib.Seq.{set_out}
use lib.IntN.{ℤ, pos, ◌+ℤ◌}
use lib.Ieee.{Float}
use borrow.Author.Tests.{ltb-true, leb-true}
use Rattle.float32.proofs.Tests.{below_or_not}
use Rattle.lists.specs.Run.{Step, taken, halted, Ran, done, refused, and_then, left, run_keeps}
use Rattle.lists.specs.Sums.{sum, sum_set, sum_replicate_zero, from}
use Rattle.panel.specs.Limits.{most_count, most_slots, most_lines}
use Rattle.panel.specs.Refusals.{count_over, sum_over, line_number, outside}
use Rattle.panel.specs.Signed.{in_i32}
use Rattle.panel.proofs.BoolLaws.{both}
use Rattle.walk.specs.Lent.{walk_at}
use Rattle.walk.specs.Walked.{Walked}
use Rattle.walk.specs.Walked.{Refused, Skipped, Line}
use Rattle.acts.specs.Acts.{St, Act, mark, visit, stop, Hit, on, off, row_acts, step_acts, steps_acts, marked, visited, take_if, act, run_acts, delta_of}
use Rattle.acts.specs.Rows.{rows_acts}
use Rattle.acts.specs.Line.{Plan, plan_acts, refs_of, halt_if, Refusal, at_line, batch_of}
use Rattle.acts.proofs.Laws.{runs_append}
use Rattle.acts.proofs.Whole.{run_made, no_stop, plan_taken, plan_made_lem}
use Rattle.walked_lines.specs.Line.{plan_of, walked_step, line_step}
use Rattle.path_count.specs.Count.{batch}
use Rattle.path_count.proofs.Batches.{batches}
use Rattle.made.specs.Made.{hit_made, plan_made, walk_made, made_of}
use Rattle.made.specs.MadeAt.{At, Not}
use Rattle.own_count.specs.Own.{zeroed, own_to}
use Rattle.own_count.specs.View.{start_of}
use Rattle.own_count.proofs.LineLaws.{own_next, own_stops}
use Rattle.tile_check.specs.Keys.{before_in}

-- ---- how many references a line makes: its clipped walk's steps

abbrev pub steps_in : Walked → ℕ
steps_in (Refused n) = 0
steps_in Skipped = 0
steps_in (Line w b) = (plan_of w b).imax - (plan_of w b).imin

-- the first of them
abbrev pub first_in : Walked → ℕ
first_in (Refused n) = 0
first_in Skipped = 0
first_in (Line w b) = (plan_of w b).imin

split_done : (δ : ℤ) (l : ℕ) (xs ys : List Act) (s u : St) → run_acts δ l (xs ++ ys) s ≡ done u → (t : St) × (run_acts δ l xs s ≡ done t) × (run_acts δ l ys t ≡ done u)
split_done δ l xs ys s u e = go (run_acts δ l xs s) refl (sym (runs_append δ l xs ys s) ∙ e)
  where
    go : (o : Ran St ℕ) → run_acts δ l xs s ≡ o → and_then o (run_acts δ l ys) ≡ done u → (t : St) × (run_acts δ l xs s ≡ done t) × (run_acts δ l ys t ≡ done u)
    go (done t) f g = (t, f, g)
    go (refused t n) f g = absurd (no_stop t u n g)

off_stops : (δ : ℤ) (l i : ℕ) (s u : St) → run_acts δ l (step_acts off i) s ≡ done u → ⊥
unfolding run_acts
off_stops δ l i s u e = no_stop s u outside e

step_made : (δ : ℤ) (l : ℕ) (h : Hit) (i : ℕ) (s u : St) → run_acts δ l (step_acts h i) s ≡ done u → u.made ≡ s.made + 1
step_made δ l (on t true) i s u e = run_made δ l (step_acts (on t true) i) s u e
step_made δ l (on t false) i s u e = run_made δ l (step_acts (on t false) i) s u e
step_made δ l off i s u e = absurd (off_stops δ l i s u e)

steps_made : (δ : ℤ) (l : ℕ) (f : ℕ → Hit) (k i : ℕ) (s u : St) → run_acts δ l (steps_acts f k i) s ≡ done u → u.made ≡ s.made + k
unfolding steps_acts
steps_made δ l f zero i s u e = run_made δ l [] s u e
steps_made δ l f (suc k) i s u e =
    let w = split_done δ l (step_acts (f i) i) (steps_acts f k (suc i)) s u e in
    omega (arith, step_made δ l (f i) i s w.0 w.1, steps_made δ l f k (suc i) w.0 u w.2)

rows_refs : (first top width k y : ℕ) → length (refs_of (row_acts first top width k y)) ≡ 0
unfolding row_acts
rows_refs first top width zero y = refl
rows_refs first top width (suc k) y = rows_refs first top width k (suc y)

acts_made : (δ : ℤ) (l : ℕ) (p : Plan) (s u : St) → run_acts δ l (plan_acts p) s ≡ done u → u.made ≡ s.made + (p.imax - p.imin)
acts_made δ l p s u e =
    let w = split_done δ l (rows_acts p.rows) (steps_acts p.hit (p.imax - p.imin) p.imin) s u e in
    omega (
      arith,
      run_made δ l (rows_acts p.rows) s w.0 w.1,
      rows_refs p.rows.first p.rows.top p.rows.width (p.rows.high - p.rows.low) p.rows.low,
      steps_made δ l p.hit (p.imax - p.imin) p.imin w.0 u w.2,
    )

halt_on : (b : Bool) (n : ℕ) (o : Step St ℕ) (u : St) → halt_if b n o ≡ taken u → o ≡ taken u
halt_on false n o u e = e
halt_on true n o u e = let z : ◌≡◌ {A = ℕ} 0 1 = cc in absurd (omega arith)

walked_made : (room l : ℕ) (x : Walked) (s u : St) → walked_step room l x s ≡ taken u → u.made ≡ s.made + steps_in x
walked_made room l (Refused n) s u e = let z : ◌≡◌ {A = ℕ} 0 1 = cc in absurd (omega arith)
walked_made room l Skipped s u e = let q : s ≡ u = cc in omega (arith, ap (λ (t : St). t.made) q)
walked_made room l (Line w b) s u e = acts_made (delta_of (plan_of w b).up) l (plan_of w b) s u (plan_taken room l (plan_of w b) s u e).0

-- ---- no more are counted than made

abbrev Fewer : St → Type 0
Fewer s = sum s.counts ≤ s.made

one_more : (cs : List ℕ) (t : ℕ) → sum (set cs t (get_or cs t 0 + 1)) ≤ sum cs + 1
one_more cs t = go (below_or_not t (length cs))
  where
    go : (t < length cs) ⊎ (length cs ≤ t) → sum (set cs t (get_or cs t 0 + 1)) ≤ sum cs + 1
    go (inl h) = omega (arith, sum_set cs t (get_or cs t 0 + 1) h)
    go (inr h) = omega (arith, ap sum (set_out cs t (get_or cs t 0 + 1) h))

if_taken : (b : Bool) (t s : St) (n : ℕ) → take_if b t n ≡ taken s → t ≡ s
if_taken true t s n e = cc
if_taken false t s n e = let z : ◌≡◌ {A = ℕ} 0 1 = cc in absurd (omega arith)

act_fewer : (δ : ℤ) (l : ℕ) (a : Act) (s u : St) → Fewer s → act δ l a s ≡ taken u → Fewer u
act_fewer δ l (mark t) s u h e = subst Fewer (if_taken (in_i32 (get_or s.backs t (pos 0) +ℤ δ)) (marked δ t s) u sum_over e) h
act_fewer δ l (visit t i) s u h e =
    subst Fewer (if_taken (ltb (get_or s.counts t 0) most_count) (visited l t i s) u count_over e) (omega (arith, one_more s.counts t))
act_fewer δ l (stop n) s u h e = let z : ◌≡◌ {A = ℕ} 0 1 = cc in absurd (omega arith)

run_fewer : (δ : ℤ) (l : ℕ) (xs : List Act) (s u : St) → Fewer s → run_acts δ l xs s ≡ done u → Fewer u
unfolding run_acts
run_fewer δ l xs s u h e = subst Fewer (ap left e) (run_keeps (act δ l) Fewer (act_fewer δ l) xs s h)

walked_fewer : (room l : ℕ) (x : Walked) (s u : St) → Fewer s → walked_step room l x s ≡ taken u → Fewer u
walked_fewer room l (Refused n) s u h e = let z : ◌≡◌ {A = ℕ} 0 1 = cc in absurd (omega arith)
walked_fewer room l Skipped s u h e = let q : s ≡ u = cc in subst Fewer q h
walked_fewer room l (Line w b) s u h e = run_fewer (delta_of (plan_of w b).up) l (plan_acts (plan_of w b)) s u h (plan_taken room l (plan_of w b) s u e).0

abbrev Most : St → Type 0
Most s = s.made ≤ most_slots

walked_most : (room l : ℕ) (x : Walked) (s u : St) → Most s → walked_step room l x s ≡ taken u → Most u
walked_most room l (Refused n) s u h e = let z : ◌≡◌ {A = ℕ} 0 1 = cc in absurd (omega arith)
walked_most room l Skipped s u h e = let q : s ≡ u = cc in subst Most q h
walked_most room l (Line w b) s u h e = plan_made_lem room l (plan_of w b) s u e

at_taken : (l : ℕ) (o : Step St ℕ) (u : St) → at_line l o ≡ taken u → o ≡ taken u
at_taken l (taken s) u e = let q : s ≡ u = cc in ap taken q
at_taken l (halted n) u e = let z : ◌≡◌ {A = ℕ} 0 1 = cc in absurd (omega arith)

module _ (nos : List ℕ) (coords : List Float) (paths : List ℕ) (tiles : ℕ) where
  line_taken : (l : ℕ) (s u : St) → line_step nos coords paths most_slots l l s ≡ taken u → walked_step most_slots l (walk_at nos coords paths l) s ≡ taken u
  unfolding line_step
  line_taken l s u e = halt_on (leb most_lines l) line_number (walked_step most_slots l (walk_at nos coords paths l) s) u e

  pub own_fewer : (n : ℕ) (u : St) → own_to nos coords paths tiles n ≡ done u → sum u.counts ≤ u.made
  unfolding own_to batch_of
  own_fewer n u e =
      subst Fewer (ap left e)
      (run_keeps (λ l t. at_line l (line_step nos coords paths most_slots l l t)) Fewer
      (λ l s v h q. walked_fewer most_slots l (walk_at nos coords paths l) s v h (line_taken l s v (at_taken l (line_step nos coords paths most_slots l l s) v q)))
      (from 0 (n - 0)) (zeroed tiles) (omega (arith, sum_replicate_zero tiles)))

  -- nor more made than may be
  pub own_most : (n : ℕ) (u : St) → own_to nos coords paths tiles n ≡ done u → u.made ≤ most_slots
  unfolding own_to batch_of
  own_most n u e =
      subst Most (ap left e)
      (run_keeps (λ l t. at_line l (line_step nos coords paths most_slots l l t)) Most
      (λ l s v h q. walked_most most_slots l (walk_at nos coords paths l) s v h (line_taken l s v (at_taken l (line_step nos coords paths most_slots l l s) v q)))
      (from 0 (n - 0)) (zeroed tiles) (omega arith))

  -- ---- where each line's references begin

  abbrev pub steps_of : ℕ → ℕ
  steps_of l = steps_in (walk_at nos coords paths l)

  so_far : (a c : ℕ) (s : St) → a ≤ c → own_to nos coords paths tiles c ≡ done s → (t : St) × (own_to nos coords paths tiles a ≡ done t)
  unfolding own_to
  so_far a c s h e = go (own_to nos coords paths tiles a) refl (sym (batches nos coords paths most_slots 0 a c (zeroed tiles) (omega arith) h) ∙ e)
    where
      go : (o : Ran St Refusal) → own_to nos coords paths tiles a ≡ o → and_then o (batch nos coords paths most_slots a c) ≡ done s
          → (t : St) × (own_to nos coords paths tiles a ≡ done t)
      go (done t) f g = (t, f)
      go (refused t n) f g = let z : ◌≡◌ {A = ℕ} 0 1 = cc in absurd (omega arith)

  module _ (c : ℕ) (s : St) (e : own_to nos coords paths tiles c ≡ done s) where
    pub start_next : (l : ℕ) → l < c → start_of nos coords paths tiles (l + 1) ≡ start_of nos coords paths tiles l + steps_of l
    start_next l h =
        let t = so_far l c s (omega arith) e in
        let u = so_far (l + 1) c s (omega arith) e in
        go t.0 t.1 u.0 u.1 (line_step nos coords paths most_slots l l t.0) refl
      where
        go : (t : St) → own_to nos coords paths tiles l ≡ done t → (u : St) → own_to nos coords paths tiles (l + 1) ≡ done u → (o : Step St ℕ)
            → line_step nos coords paths most_slots l l t ≡ o → start_of nos coords paths tiles (l + 1) ≡ start_of nos coords paths tiles l + steps_of l
        go t et u eu (taken v) q =
            let ev = own_next nos coords paths tiles l t et v q in
            ap (λ (r : Ran St Refusal). (left r).made) ev
            ∙ walked_made most_slots l (walk_at nos coords paths l) t v (line_taken l t v q)
            ∙ ap (λ (r : Ran St Refusal). (left r).made + steps_of l) (sym et)
        go t et u eu (halted n) q =
            let r = own_stops nos coords paths tiles l t et (l + 1) (omega arith) n q in
            let z : ◌≡◌ {A = ℕ} 0 1 = cc in absurd (omega arith)

    pub start_apart : (l d : ℕ) → l + suc d ≤ c → start_of nos coords paths tiles l + steps_of l ≤ start_of nos coords paths tiles (l + suc d)
    start_apart l zero h = let q : l + 1 ≡ l + suc zero = omega arith in omega (arith, start_next l (omega arith), ap (start_of nos coords paths tiles) q)
    start_apart l (suc d) h =
        let q : l + suc d + 1 ≡ l + suc (suc d) = omega arith in
        omega (arith, start_apart l d (omega arith), start_next (l + suc d) (omega arith), ap (start_of nos coords paths tiles) q)

    pub start_within : (l : ℕ) → l < c → start_of nos coords paths tiles l + steps_of l ≤ s.made
    start_within l h =
        let q : l + suc (c - suc l) ≡ c = omega arith in
        omega (arith, start_apart l (c - suc l) (omega arith), ap (start_of nos coords paths tiles) q, ap (λ (r : Ran St Refusal). (left r).made) e)

-- ---- what a reference that our lines make tells

pub record MadeTold (nos : List ℕ) (coords : List Float) (paths : List ℕ) (l k n : ℕ) : Type 0 where
  pub line_in : l < length nos
  pub step_in : n < steps_in (walk_at nos coords paths l)
  pub step_is : k ≡ n + first_in (walk_at nos coords paths l)

hit_told : (m : ℕ) (h : Hit) (n t : ℕ) → hit_made m h ≡ At n t → m ≡ n
hit_told m (on u x) n t e = ap before_in e
hit_told m off n t e = let z : ◌≡◌ {A = ℕ} 0 1 = cc in absurd (omega arith)

plan_told : (p : Plan) (k n t : ℕ) → plan_made p k ≡ At n t → (n < p.imax - p.imin) × (k ≡ n + p.imin)
unfolding plan_made
plan_told p k n t e = go (leb p.imin k && ltb k p.imax) refl e
  where
    go : (c : Bool) → (leb p.imin k && ltb k p.imax) ≡ c → cond c (hit_made (k - p.imin) (p.hit k)) Not ≡ At n t → (n < p.imax - p.imin) × (k ≡ n + p.imin)
    go true f g =
        let b = both (leb p.imin k) (ltb k p.imax) f in
        let q = hit_told (k - p.imin) (p.hit k) n t g in
        let lo = leb-true p.imin k b.0 in
        let hi = ltb-true k p.imax b.1 in
        (omega arith, omega arith)
    go false f g = let z : ◌≡◌ {A = ℕ} 0 1 = cc in absurd (omega arith)

pub made_told : (nos : List ℕ) (coords : List Float) (paths : List ℕ) (l k n t : ℕ) → made_of nos coords paths l k ≡ At n t → MadeTold nos coords paths l k n
unfolding made_of
made_told nos coords paths l k n t e = go (ltb l (length nos)) refl e
  where
    walked : (x : Walked) → walk_made x k ≡ At n t → (n < steps_in x) × (k ≡ n + first_in x)
    walked (Refused m) f = let z : ◌≡◌ {A = ℕ} 0 1 = cc in absurd (omega arith)
    walked Skipped f = let z : ◌≡◌ {A = ℕ} 0 1 = cc in absurd (omega arith)
    walked (Line w b) f = plan_told (plan_of w b) k n t f

    go : (c : Bool) → ltb l (length nos) ≡ c → cond c (walk_made (walk_at nos coords paths l) k) Not ≡ At n t → MadeTold nos coords paths l k n
    go true f g = let w = walked (walk_at nos coords paths l) g in record { line_in = ltb-true l (length nos) f; step_in = w.0; step_is = w.1 }
    go false f g = let z : ◌≡◌ {A = ℕ} 0 1 = cc in absurd (omega arith)
