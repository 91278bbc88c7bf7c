-- A line that is taken makes exactly one reference for each step of its clipped walk. Assumes nothing.
use mathlib.Core.Path.{◌≡◌, refl}
use mathlib.Core.Bool.{Bool, true, false}
use mathlib.Core.List.{List, [], ◌∷◌, ◌++◌}
use Prim.Native.Nat.{ℕ, zero, suc, ◌+◌, ◌-◌, ◌≤◌, min}
use native.Mathlib.Omega.{arith}
use lib.Dec.{ltb}
use lib.ListN.{length, get_or}
use lib.IntN.{ℤ, pos, ◌+ℤ◌}
use Rattle.lists.specs.Run.{Step, taken, done}
use Rattle.panel.specs.Limits.{most_count, most_slots}
use Rattle.panel.specs.Refusals.{count_over, sum_over}
use Rattle.panel.specs.Signed.{in_i32}
use Rattle.acts.specs.Acts.{St, Act, mark, visit, stop, Hit, on, off, row_acts, step_acts, steps_acts, marked, visited, run_acts, delta_of}
use Rattle.acts.specs.Rows.{rows_acts}
use Rattle.acts.specs.Line.{Plan, plan_acts, refs_of, halt_if, too_far, plan_step}
use Rattle.acts.proofs.Whole.{on_taken, no_stop, run_made, plan_taken}

-- the acts that refuse
abbrev stops_in : List Act → ℕ
stops_in [] = 0
stops_in (mark t ∷ xs) = stops_in xs
stops_in (visit t i ∷ xs) = stops_in xs
stops_in (stop n ∷ xs) = suc (stops_in xs)

-- a run that goes through has none
none_stops : (δ : ℤ) (l : ℕ) (xs : List Act) (s u : St) → run_acts δ l xs s ≡ done u → stops_in xs ≡ 0
unfolding run_acts
none_stops δ l [] s u e = refl
none_stops δ l (mark t ∷ xs) s u e = none_stops δ l xs (marked δ t s) u (on_taken (in_i32 (get_or s.backs t (pos 0) +ℤ δ)) s (marked δ t s) sum_over (run_acts δ l xs) u e)
none_stops δ l (visit t i ∷ xs) s u e =
    none_stops δ l xs (visited l t i s) u (on_taken (ltb (get_or s.counts t 0) most_count) s (visited l t i s) count_over (run_acts δ l xs) u e)
none_stops δ l (stop n ∷ xs) s u e = absurd (no_stop s u n e)

-- each step is a reference or a refusal, and row marks are neither
abbrev parts : List Act → ℕ
parts xs = length (refs_of xs) + stops_in xs

parts_append : (xs ys : List Act) → parts (xs ++ ys) ≡ parts xs + parts ys
parts_append [] ys = omega arith
parts_append (mark t ∷ xs) ys = parts_append xs ys
parts_append (visit t i ∷ xs) ys = omega (arith, parts_append xs ys)
parts_append (stop n ∷ xs) ys = omega (arith, parts_append xs ys)

step_parts : (h : Hit) (i : ℕ) → parts (step_acts h i) ≡ 1
step_parts (on t true) i = refl
step_parts (on t false) i = refl
step_parts off i = refl

steps_parts : (f : ℕ → Hit) (k i : ℕ) → parts (steps_acts f k i) ≡ k
unfolding steps_acts
steps_parts f zero i = refl
steps_parts f (suc k) i = omega (arith, parts_append (step_acts (f i) i) (steps_acts f k (suc i)), step_parts (f i) i, steps_parts f k (suc i))

rows_parts : (first top width k y : ℕ) → parts (row_acts first top width k y) ≡ 0
unfolding row_acts
rows_parts first top width zero y = refl
rows_parts first top width (suc k) y = rows_parts first top width k (suc y)

plan_parts : (p : Plan) → parts (plan_acts p) ≡ p.imax - p.imin
plan_parts p =
    omega (
      arith,
      parts_append (rows_acts p.rows) (steps_acts p.hit (p.imax - p.imin) p.imin),
      rows_parts p.rows.first p.rows.top p.rows.width (p.rows.high - p.rows.low) p.rows.low,
      steps_parts p.hit (p.imax - p.imin) p.imin,
    )

pub plan_exact : (room l : ℕ) (p : Plan) (s u : St) → plan_step room l p s ≡ taken u → (u.made ≡ s.made + (p.imax - p.imin)) × (u.made ≤ min room most_slots)
plan_exact room l p s u e =
    let t = plan_taken room l p s u e in
    let n = none_stops (delta_of p.up) l (plan_acts p) s u t.0 in
    let m : u.made ≡ s.made + (p.imax - p.imin) = omega (arith, run_made (delta_of p.up) l (plan_acts p) s u t.0, plan_parts p, n) in
    (m, omega (arith, m, t.1))

-- and its largest step number is within the limit
pub plan_near : (room l : ℕ) (p : Plan) (s u : St) → plan_step room l p s ≡ taken u → too_far p ≡ false
unfolding plan_step
plan_near room l p s u e = go (too_far p) _ e
  where
    go : (b : Bool) (next : Step St ℕ) → halt_if b count_over next ≡ taken u → b ≡ false
    go false next q = refl
    go true next q = let z : ◌≡◌ {A = ℕ} 0 1 = cc in absurd (omega arith)
