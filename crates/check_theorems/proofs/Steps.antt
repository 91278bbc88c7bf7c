-- The references of one line that is taken, beside what is made of its steps: step k of its clipped walk, with n steps before it, is its reference n.
-- Assumes nothing.
use mathlib.Core.Path.{◌≡◌, refl, sym, ap, subst, ◌∙◌}
use mathlib.Core.Bool.{Bool, true, false, cond, ◌&&◌}
use mathlib.Core.List.{List, [], ◌∷◌, ◌++◌}
use Prim.Native.Nat.{ℕ, zero, suc, ◌+◌, ◌-◌, ◌≤◌, ◌<◌}
use native.Mathlib.Nat.{add-zero}
use native.Mathlib.Omega.{arith}
use lib.Dec.{leb, ltb}
use lib.ListN.{length, get_or}
use lib.IntN.{ℤ, pos, ◌+ℤ◌}
use borrow.Author.Tests.{leb-true, ltb-true, le-leb, lt-ltb}
use Rattle.lists.specs.Run.{done, All}
use Rattle.panel.specs.Limits.{most_count}
use Rattle.panel.specs.Refusals.{count_over, sum_over}
use Rattle.panel.specs.Signed.{in_i32}
use Rattle.panel.proofs.BoolLaws.{both}
use Rattle.walk.specs.Walked.{Walked, Refused, Skipped, Line}
use Rattle.acts.specs.Acts.{St, Act, mark, visit, stop, Hit, on, off, row_acts, step_acts, steps_acts, marked, visited, run_acts}
use Rattle.acts.specs.Line.{Plan, plan_acts}
use Rattle.acts.proofs.Whole.{on_taken, no_stop}
use Rattle.walked_lines.specs.Line.{plan_of}
use Rattle.made.specs.Made.{hit_made, plan_made, walk_made}
use Rattle.made.specs.MadeAt.{At, Not}
use Rattle.tile_check.specs.Keys.{before_in, tile_in}
use Rattle.theorems.specs.Drawn.{acts_by}
use Rattle.theorems.specs.Events.{Event, events_in}
use Rattle.theorems.proofs.SumLaws.{event_at}

-- ---- acts that are all done

abbrev pub Goes : Act → Type 0
Goes (mark t) = Unit {0}
Goes (visit t i) = Unit {0}
Goes (stop n) = ⊥

pub ran_goes : (δ : ℤ) (l : ℕ) (xs : List Act) (s u : St) → run_acts δ l xs s ≡ done u → All Goes xs
unfolding run_acts
ran_goes δ l [] s u e = tt
ran_goes δ l (mark t ∷ xs) s u e =
    (tt, ran_goes δ l xs (marked δ t s) u (on_taken (in_i32 (get_or s.backs t (pos 0) +ℤ δ)) s (marked δ t s) sum_over (run_acts δ l xs) u e))
ran_goes δ l (visit t i ∷ xs) s u e =
    (tt, ran_goes δ l xs (visited l t i s) u (on_taken (ltb (get_or s.counts t 0) most_count) s (visited l t i s) count_over (run_acts δ l xs) u e))
ran_goes δ l (stop n ∷ xs) s u e = absurd (no_stop s u n e)

-- ---- a row of steps

abbrev pub event : ℕ → ℕ → ℕ → Event
event l t k = record { line = l; tile = t; step = k }

-- a reference of the step k that falls there
abbrev HitEvent : ℕ → Hit → ℕ → Event → Type 0
HitEvent l (on t x) k e = e ≡ event l t k
HitEvent l off k e = ⊥

module _ (l : ℕ) (f : ℕ → Hit) where
  -- one for each step
  steps_many : (k i : ℕ) → All Goes (steps_acts f k i) → length (events_in l (steps_acts f k i)) ≡ k
  unfolding steps_acts
  steps_many zero i g = refl
  steps_many (suc k) i g = go (f i) (steps_acts f k (suc i)) (steps_many k (suc i)) g
    where
      go : (h : Hit) (xs : List Act) → (All Goes xs → length (events_in l xs) ≡ k) → All Goes (step_acts h i ++ xs) → length (events_in l (step_acts h i ++ xs)) ≡ suc k
      go (on t true) xs ih g = ap suc (ih g.1.1)
      go (on t false) xs ih g = ap suc (ih g.1)
      go off xs ih g = absurd g.0

  step_here : (h : Hit) (i : ℕ) (xs : List Act) → All Goes (step_acts h i ++ xs) → HitEvent l h i (event_at (events_in l (step_acts h i ++ xs)) 0)
  step_here (on t true) i xs g = refl
  step_here (on t false) i xs g = refl
  step_here off i xs g = absurd g.0

  step_later : (h : Hit) (i : ℕ) (xs : List Act) → All Goes (step_acts h i ++ xs)
      → All Goes xs × ((n : ℕ) → event_at (events_in l (step_acts h i ++ xs)) (suc n) ≡ event_at (events_in l xs) n)
  step_later (on t true) i xs g = (g.1.1, λ n. refl)
  step_later (on t false) i xs g = (g.1, λ n. refl)
  step_later off i xs g = absurd g.0

  step_event : (k i n : ℕ) → All Goes (steps_acts f k i) → n < k → HitEvent l (f (i + n)) (i + n) (event_at (events_in l (steps_acts f k i)) n)
  unfolding steps_acts
  step_event zero i n g h = absurd (omega arith)
  step_event (suc k) i zero g h = rw add-zero (step_here (f i) i (steps_acts f k (suc i)) g)
  step_event (suc k) i (suc n) g h =
      let q : i + suc n ≡ suc i + n = omega arith in
      let w = step_later (f i) i (steps_acts f k (suc i)) g in
      rw (q, w.1 n) (step_event k (suc i) n w.0 (omega arith))

-- ---- a clipped walk

module _ (l first top width : ℕ) (ys : List Act) where
  rows_events : (k y : ℕ) → events_in l (row_acts first top width k y ++ ys) ≡ events_in l ys
  unfolding row_acts
  rows_events zero y = refl
  rows_events (suc k) y = rows_events k (suc y)

  rows_go : (k y : ℕ) → All Goes (row_acts first top width k y ++ ys) → All Goes ys
  unfolding row_acts
  rows_go zero y g = g
  rows_go (suc k) y g = rows_go k (suc y) g.1

module _ (l : ℕ) (p : Plan) (g : All Goes (plan_acts p)) where
  steps : List Act
  steps = steps_acts p.hit (p.imax - p.imin) p.imin

  steps_go : All Goes steps
  unfolding steps
  steps_go = rows_go l p.rows.first p.rows.top p.rows.width steps (p.rows.high - p.rows.low) p.rows.low g

  same : events_in l (plan_acts p) ≡ events_in l steps
  unfolding steps
  same = rows_events l p.rows.first p.rows.top p.rows.width steps (p.rows.high - p.rows.low) p.rows.low

  pub plan_many : length (events_in l (plan_acts p)) ≡ p.imax - p.imin
  unfolding steps
  plan_many = ap length same ∙ steps_many l p.hit (p.imax - p.imin) p.imin steps_go

  at_place : (n : ℕ) → n < p.imax - p.imin → HitEvent l (p.hit (p.imin + n)) (p.imin + n) (event_at (events_in l (plan_acts p)) n)
  unfolding steps
  at_place n h = rw same (step_event l p.hit (p.imax - p.imin) p.imin n steps_go h)

  -- what is made of step k, with n steps before it, is the line's reference n
  pub plan_event : (k n t : ℕ) → plan_made p k ≡ At n t → (n < length (events_in l (plan_acts p))) × (event_at (events_in l (plan_acts p)) n ≡ event l t k)
  unfolding plan_made
  plan_event k n t e = go (leb p.imin k && ltb k p.imax) refl e
    where
      hit : (h : Hit) (m : ℕ) (x : Event) → hit_made m h ≡ At n t → HitEvent l h k x → (m ≡ n) × (x ≡ event l t k)
      hit (on u z) m x e q = (ap before_in e, q ∙ ap (λ (v : ℕ). event l v k) (ap tile_in e))
      hit off m x e q = absurd q

      at : p.imin ≤ k → k < p.imax → hit_made (k - p.imin) (p.hit k) ≡ At n t → (n < length (events_in l (plan_acts p))) × (event_at (events_in l (plan_acts p)) n ≡ event l t k)
      at a b q =
          let m = k - p.imin in
          let back : p.imin + m ≡ k = omega arith in
          let x : HitEvent l (p.hit k) k (event_at (events_in l (plan_acts p)) m) =
          subst (λ (j : ℕ). HitEvent l (p.hit j) j (event_at (events_in l (plan_acts p)) m)) back (at_place m (omega arith)) in
          let w = hit (p.hit k) m (event_at (events_in l (plan_acts p)) m) q x in
          (omega (arith, plan_many, w.0), ap (event_at (events_in l (plan_acts p))) (sym w.0) ∙ w.1)

      go : (b : Bool) → (leb p.imin k && ltb k p.imax) ≡ b → cond b (hit_made (k - p.imin) (p.hit k)) Not ≡ At n t
          → (n < length (events_in l (plan_acts p))) × (event_at (events_in l (plan_acts p)) n ≡ event l t k)
      go true q f = let b = both (leb p.imin k) (ltb k p.imax) q in at (leb-true p.imin k b.0) (ltb-true k p.imax b.1) f
      go false q f = let z : ◌≡◌ {A = ℕ} 0 1 = cc in absurd (omega arith)

  -- and back
  pub plan_made_lem : (n : ℕ) → n < length (events_in l (plan_acts p))
      → ((event_at (events_in l (plan_acts p)) n).line ≡ l) × (plan_made p (event_at (events_in l (plan_acts p)) n).step ≡ At n (event_at (events_in l (plan_acts p)) n).tile)
  unfolding plan_made
  plan_made_lem n h = go (p.hit (p.imin + n)) refl (at_place n few)
    where
      few : n < p.imax - p.imin
      few = omega (arith, plan_many)

      e : Event
      e = event_at (events_in l (plan_acts p)) n

      go : (x : Hit) → p.hit (p.imin + n) ≡ x → HitEvent l x (p.imin + n) (event_at (events_in l (plan_acts p)) n)
          → (e.line ≡ l) × (cond (leb p.imin e.step && ltb e.step p.imax) (hit_made (e.step - p.imin) (p.hit e.step)) Not ≡ At n e.tile)
      go (on t z) q r =
          let a : leb p.imin (p.imin + n) ≡ true = le-leb p.imin (p.imin + n) (omega arith) in
          let b : ltb (p.imin + n) p.imax ≡ true = lt-ltb (p.imin + n) p.imax (omega (arith, few)) in
          let c : p.imin + n - p.imin ≡ n = omega arith in
          rw r (refl, rw (a, b, c, q))
      go off q r = absurd r

-- ---- a line as its walk was found

module _ (l : ℕ) (x : Walked) (g : All Goes (acts_by x)) where
  pub walk_event : (k n t : ℕ) → walk_made x k ≡ At n t → (n < length (events_in l (acts_by x))) × (event_at (events_in l (acts_by x)) n ≡ event l t k)
  walk_event k n t e = go x g e
    where
      go : (y : Walked) → All Goes (acts_by y) → walk_made y k ≡ At n t → (n < length (events_in l (acts_by y))) × (event_at (events_in l (acts_by y)) n ≡ event l t k)
      go (Refused m) g e = let z : ◌≡◌ {A = ℕ} 0 1 = cc in absurd (omega arith)
      go Skipped g e = let z : ◌≡◌ {A = ℕ} 0 1 = cc in absurd (omega arith)
      go (Line w b) g e = plan_event l (plan_of w b) g k n t e

  pub walk_made_lem : (n : ℕ) → n < length (events_in l (acts_by x))
      → ((event_at (events_in l (acts_by x)) n).line ≡ l) × (walk_made x (event_at (events_in l (acts_by x)) n).step ≡ At n (event_at (events_in l (acts_by x)) n).tile)
  walk_made_lem n h = go x g h
    where
      go : (y : Walked) → All Goes (acts_by y) → n < length (events_in l (acts_by y))
          → ((event_at (events_in l (acts_by y)) n).line ≡ l) × (walk_made y (event_at (events_in l (acts_by y)) n).step ≡ At n (event_at (events_in l (acts_by y)) n).tile)
      go (Refused m) g h = absurd (omega arith)
      go Skipped g h = absurd (omega arith)
      go (Line w b) g h = plan_made_lem l (plan_of w b) g n h
