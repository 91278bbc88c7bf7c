-- What a run that goes through leaves: one reference for each visit, in order, each tile's count up by its visits.
-- Assumes nothing.
use mathlib.Core.Path.{◌≡◌, refl, ap, ◌∙◌}
use mathlib.Core.Bool.{Bool, true, false}
use mathlib.Core.List.{List, [], ◌∷◌, ◌++◌}
use Prim.Native.Nat.{ℕ, zero, suc, ◌+◌, ◌-◌, ◌*◌, ◌≤◌, min}
use native.Mathlib.Nat.{le_refl}
use native.Mathlib.Omega.{arith}
use lib.Dec.{ltb}
use lib.ListN.{length, get_or}
use lib.Seq.{sets}
use lib.IntN.{ℤ, pos, ◌+ℤ◌}
use borrow.Author.Tests.{ltb-false}
use Rattle.lists.specs.Run.{Step, taken, Ran, done, refused, on_step, all_or_none}
use Rattle.lists.specs.Tally.{tally, slices}
use Rattle.panel.specs.Limits.{most_count, most_slots}
use Rattle.panel.specs.Refusals.{count_over, no_room_word, sum_over}
use Rattle.panel.specs.Widths.{ref_words}
use Rattle.panel.specs.Signed.{in_i32}
use Rattle.acts.specs.Acts.{St, Act, mark, visit, stop, Hit, on, off, row_acts, step_acts, steps_acts, marked, packed, visited, take_if, run_acts, delta_of}
use Rattle.acts.specs.Rows.{rows_acts}
use Rattle.acts.specs.Line.{Plan, plan_acts, Ref, refs_of, plan_refs, halt_if, too_far, plan_step}
use Rattle.acts.proofs.Once.{visits_of}

-- an act that is taken, and what is run after it
pub on_taken : (b : Bool) (s t : St) (n : ℕ) (k : St → Ran St ℕ) (u : St) → on_step (take_if b t n) s k ≡ done u → k t ≡ done u
on_taken true s t n k u e = e
on_taken false s t n k u e = let z : ◌≡◌ {A = ℕ} 0 1 = cc in absurd (omega arith)

pub no_stop : (s u : St) (n : ℕ) → refused s n ≡ done u → ⊥
no_stop s u n e = let z : ◌≡◌ {A = ℕ} 0 1 = cc in omega arith

-- the words of references, slice by slice
abbrev pub words : ℕ → List Ref → List ℕ → List ℕ
words l [] slices = []
words l (r ∷ rs) [] = []
words l (r ∷ rs) (k ∷ ks) = l ∷ packed k r.step ∷ words l rs ks

module _ (δ : ℤ) (l : ℕ) where
  -- as many references as visits
  pub run_made : (xs : List Act) (s u : St) → run_acts δ l xs s ≡ done u → u.made ≡ s.made + length (refs_of xs)
  unfolding run_acts
  run_made [] s u e = let q : s ≡ u = cc in omega (arith, ap (λ (t : St). t.made) q)
  run_made (mark t ∷ xs) s u e = run_made xs (marked δ t s) u (on_taken (in_i32 (get_or s.backs t (pos 0) +ℤ δ)) s (marked δ t s) sum_over (run_acts δ l xs) u e)
  run_made (visit t i ∷ xs) s u e =
      omega (arith, run_made xs (visited l t i s) u (on_taken (ltb (get_or s.counts t 0) most_count) s (visited l t i s) count_over (run_acts δ l xs) u e))
  run_made (stop n ∷ xs) s u e = absurd (no_stop s u n e)

  -- each tile's count grows by its visits
  pub run_counts : (xs : List Act) (s u : St) → run_acts δ l xs s ≡ done u → u.counts ≡ tally s.counts (visits_of xs)
  unfolding run_acts
  run_counts [] s u e = let q : u ≡ s = cc in ap (λ (t : St). t.counts) q
  run_counts (mark t ∷ xs) s u e = run_counts xs (marked δ t s) u (on_taken (in_i32 (get_or s.backs t (pos 0) +ℤ δ)) s (marked δ t s) sum_over (run_acts δ l xs) u e)
  run_counts (visit t i ∷ xs) s u e = run_counts xs (visited l t i s) u (on_taken (ltb (get_or s.counts t 0) most_count) s (visited l t i s) count_over (run_acts δ l xs) u e)
  run_counts (stop n ∷ xs) s u e = absurd (no_stop s u n e)

  -- the references stand one after another from the references so far on
  pub run_refs : (xs : List Act) (s u : St) → run_acts δ l xs s ≡ done u
      → u.refs ≡ sets s.refs (ref_words * s.made) (words l (refs_of xs) (slices s.counts (visits_of xs)))
  unfolding run_acts
  run_refs [] s u e = let q : u ≡ s = cc in ap (λ (t : St). t.refs) q
  run_refs (mark t ∷ xs) s u e = run_refs xs (marked δ t s) u (on_taken (in_i32 (get_or s.backs t (pos 0) +ℤ δ)) s (marked δ t s) sum_over (run_acts δ l xs) u e)
  run_refs (visit t i ∷ xs) s u e =
      let a : ref_words * (s.made + 1) ≡ suc (suc (ref_words * s.made)) = omega arith in
      let b : ref_words * s.made + 1 ≡ suc (ref_words * s.made) = omega arith in
      run_refs xs (visited l t i s) u (on_taken (ltb (get_or s.counts t 0) most_count) s (visited l t i s) count_over (run_acts δ l xs) u e)
      ∙ rw (a, b)
  run_refs (stop n ∷ xs) s u e = absurd (no_stop s u n e)

-- ---- how many references a line makes: at most its steps

refs_append : (xs ys : List Act) → length (refs_of (xs ++ ys)) ≡ length (refs_of xs) + length (refs_of ys)
refs_append [] ys = omega arith
refs_append (mark t ∷ xs) ys = refs_append xs ys
refs_append (visit t i ∷ xs) ys = omega (arith, refs_append xs ys)
refs_append (stop n ∷ xs) ys = refs_append xs ys

step_refs : (h : Hit) (i : ℕ) → length (refs_of (step_acts h i)) ≤ 1
step_refs (on t true) i = le_refl 1
step_refs (on t false) i = le_refl 1
step_refs off i = omega arith

steps_refs : (f : ℕ → Hit) (k i : ℕ) → length (refs_of (steps_acts f k i)) ≤ k
unfolding steps_acts
steps_refs f zero i = le_refl 0
steps_refs f (suc k) i = omega (arith, refs_append (step_acts (f i) i) (steps_acts f k (suc i)), step_refs (f i) i, steps_refs f k (suc i))

rows_refs : (first top width k y : ℕ) → length (refs_of (row_acts first top width k y)) ≡ 0
unfolding row_acts
rows_refs first top width zero y = refl
rows_refs first top width (suc k) y = rows_refs first top width k (suc y)

pub plan_refs_lem : (p : Plan) → length (plan_refs p) ≤ p.imax - p.imin
plan_refs_lem p =
    omega (
      arith,
      refs_append (rows_acts p.rows) (steps_acts p.hit (p.imax - p.imin) p.imin),
      rows_refs p.rows.first p.rows.top p.rows.width (p.rows.high - p.rows.low) p.rows.low,
      steps_refs p.hit (p.imax - p.imin) p.imin,
    )

none_taken : (r : Ran St ℕ) (u : St) → all_or_none r ≡ taken u → r ≡ done u
none_taken (done s) u e = let q : s ≡ u = cc in ap done q
none_taken (refused s n) u e = let z : ◌≡◌ {A = ℕ} 0 1 = cc in absurd (omega arith)

go_on : (b : Bool) (n : ℕ) (o : Step St ℕ) (u : St) → halt_if b n o ≡ taken u → (b ≡ false) × (o ≡ taken u)
go_on false n o u e = (refl, e)
go_on true n o u e = let z : ◌≡◌ {A = ℕ} 0 1 = cc in absurd (omega arith)

-- a line that is taken ran, and its references are within the limit
pub plan_taken : (room l : ℕ) (p : Plan) (s u : St) → plan_step room l p s ≡ taken u
    → (run_acts (delta_of p.up) l (plan_acts p) s ≡ done u) × (s.made + (p.imax - p.imin) ≤ min room most_slots)
unfolding plan_step
plan_taken room l p s u e =
    let a = go_on (too_far p) count_over _ u e in
    let b = go_on (ltb (min room most_slots) (s.made + (p.imax - p.imin))) no_room_word _ u a.1 in
    (none_taken (run_acts (delta_of p.up) l (plan_acts p) s) u b.1, ltb-false (min room most_slots) (s.made + (p.imax - p.imin)) b.0)

pub plan_made_lem : (room l : ℕ) (p : Plan) (s u : St) → plan_step room l p s ≡ taken u → u.made ≤ most_slots
plan_made_lem room l p s u e =
    let t = plan_taken room l p s u e in
    omega (arith, t.1, plan_refs_lem p, run_made (delta_of p.up) l (plan_acts p) s u t.0)
