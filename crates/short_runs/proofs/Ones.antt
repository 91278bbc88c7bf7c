-- A line that lies within one tile: its acts are one visit, so that visit is its outcome. A run of such lines, and what it leaves of a batch.
-- Assumes nothing.
use mathlib.Core.Path.{◌≡◌, refl, sym, ap, ◌∙◌}
use mathlib.Core.Bool.{Bool, false, not, ◌&&◌, ◌||◌}
use mathlib.Core.List.{List, [], ◌∷◌}
use Prim.Native.Nat.{ℕ, zero, suc, ◌+◌, ◌-◌, ◌/◌, ◌<◌, ◌≤◌}
use native.Mathlib.Nat.{add-zero}
use native.Mathlib.Numerals.{add-one}
use native.Mathlib.Omega.{arith}
use lib.Dec.{ltb}
use lib.ListN.{length, get_or, set}
use lib.IntN.{ℤ}
use lib.Ieee.{Float}
use borrow.Author.Tests.{lt-ltb, le-ltb}
use Rattle.lists.specs.Run.{Step, Ran, done, refused, and_then}
use Rattle.panel.specs.Limits.{most_lines, most_steps, most_slots, most_count}
use Rattle.panel.specs.Refs.{packed, put_ref}
use Rattle.panel.specs.Widths.{ref_words}
use Rattle.panel.specs.declared.kinds.Path.{Path}
use Rattle.panel.specs.declared.kinds.TileNo.{TileNo}
use Rattle.walk.specs.Step.{last_z_word}
use Rattle.walk.specs.declared.kinds.Pace.{Pace}
use Rattle.clip.specs.declared.Clip.{Clip}
use Rattle.one_tile.specs.One.{Alone}
use Rattle.acts.specs.Acts.{St, st_of, Act, visit, Hit, on, steps_acts, visited, run_acts, delta_of}
use Rattle.acts.specs.Line.{plan_acts, batch_of}
use Rattle.acts.proofs.Laws.{rows_end}
use Rattle.acts.proofs.Lines.{batch_goes}
use Rattle.hits.specs.Steps.{hit_at}
use Rattle.walked_lines.specs.Line.{plan_by, line_step, line_ran}
use Rattle.short_runs.specs.Ones.{first_ran}
use Rattle.hits.proofs.StepLaws.{hit_on}
use Rattle.walked_lines.proofs.Lines.{walk_done, line_walked, ran_taken}

-- steps 0 up to 1, and no row
abbrev one_step : Path → Clip
one_step b = record { imin = 0; imax = 1; ymin = b.y0; ymax = 0 }

one_step_lem : (f : ℕ → Hit) (t : ℕ) → f 0 ≡ on t false → steps_acts f 1 0 ≡ visit t 0 ∷ []
unfolding steps_acts
one_step_lem f t e = rw e

one_act : (up : Bool) (w : Pace) (b : Path) (t : ℕ) → hit_at w b 0 ≡ on t false → plan_acts (plan_by up w b (one_step b)) ≡ visit t 0 ∷ []
one_act up w b t e = rw (rows_end b.first b.y0 (b.x1 - b.x0) b.y0 0 (omega arith)) (one_step_lem (hit_at w b) t e)

one_visit : (δ : ℤ) (l t : ℕ) (s : St) → get_or s.counts t 0 < most_count → done (visited l t 0 s) ≡ run_acts δ l (visit t 0 ∷ []) s
unfolding run_acts
one_visit δ l t s h = rw (lt-ltb _ _ h)

near : (ltb 0 1 && ltb most_steps 1) ≡ false
unfolding most_steps
near = refl

roomy : (room made : ℕ) → made < room → made < most_slots → (ltb room (made + (1 - 0)) || ltb most_slots (made + (1 - 0))) ≡ false
roomy room made h k = rw (le-ltb room (made + 1) (omega arith), le-ltb most_slots (made + 1) (omega arith))

-- the line's outcome, where its tile is visited at step 0 as reference number made
pub line_one : (nos : List ℕ) (coords : List Float) (paths : List ℕ) (l k made : ℕ) (bs : List ℤ) (cs rs cs' rs' : List ℕ) (t : TileNo)
    → l < most_lines → Alone nos coords paths k made cs (length rs) t
    → cs' ≡ set cs t.0 (get_or cs t.0 0 + 1) → rs' ≡ put_ref made l (packed (get_or cs t.0 0) 0) rs
    → done (st_of bs cs' rs' (made + 1)) ≡ line_ran (line_step nos coords paths (length rs / ref_words) l k (st_of bs cs rs made)) (st_of bs cs rs made)
line_one nos coords paths l k made bs cs rs cs' rs' t h a ec er =
    let s = st_of bs cs rs made in
    let w = a.w in
    let b = a.b in
    let hit : hit_at w.pace b 0 ≡ on t.0 false = hit_on w.pace b 0 t a.x a.y a.z a.falls (last_z_word w.pace 0) false refl (rw a.below_top) in
    let acts = one_act (not w.e.is_down) w.pace b t.0 hit in
    let runs : done (st_of bs cs' rs' (made + 1)) ≡ run_acts (delta_of (not w.e.is_down)) l (plan_acts (plan_by (not w.e.is_down) w.pace b (one_step b))) s =
    rw (ec, er) (one_visit (delta_of (not w.e.is_down)) l t.0 s a.free) ∙ ap (λ (xs : List Act). run_acts (delta_of (not w.e.is_down)) l xs s) (sym acts) in
    walk_done (length rs / ref_words) l w b (one_step b) (sym a.clipped) s near (roomy (length rs / ref_words) made (omega (arith, a.room)) a.few) (st_of bs cs' rs' (made + 1)) runs
    ∙ ap (λ (o : Step St ℕ). line_ran o s) (sym (line_walked nos coords paths (length rs / ref_words) l k s _ h a.walked))

-- ---- a run of lines

-- one line more
run_more : (f : ℕ → St → Step St ℕ) (n : ℕ) (s t u : St) → done t ≡ first_ran f n s → done u ≡ line_ran (f n t) t → done u ≡ first_ran f (n + 1) s
run_more f n s t u e g = rw (add-one n, ← e) g

-- one more that lies within one tile
pub run_one : (nos : List ℕ) (coords : List Float) (paths : List ℕ) (l k n made : ℕ) (cs₀ rs₀ cs rs cs' rs' : List ℕ) (t : TileNo)
    → length rs ≡ length rs₀ → l + n < most_lines → Alone nos coords paths (k + n) (made + n) cs (length rs) t
    → cs' ≡ set cs t.0 (get_or cs t.0 0 + 1) → rs' ≡ put_ref (made + n) (l + n) (packed (get_or cs t.0 0) 0) rs → (bs : List ℤ)
    → done (st_of bs cs rs (made + n)) ≡ first_ran (λ j. line_step nos coords paths (length rs₀ / ref_words) (l + j) (k + j)) n (st_of bs cs₀ rs₀ made)
    → done (st_of bs cs' rs' (made + (n + 1))) ≡ first_ran (λ j. line_step nos coords paths (length rs₀ / ref_words) (l + j) (k + j)) (n + 1) (st_of bs cs₀ rs₀ made)
run_one nos coords paths l k n made cs₀ rs₀ cs rs cs' rs' t e h a ec er bs inv =
    let q : made + (n + 1) ≡ made + n + 1 = omega arith in
    let p = line_one nos coords paths (l + n) (k + n) (made + n) bs cs rs cs' rs' t h a ec er in
    let s = st_of bs cs rs (made + n) in
    run_more (λ j. line_step nos coords paths (length rs₀ / ref_words) (l + j) (k + j)) n (st_of bs cs₀ rs₀ made) s _ inv
    (ap (λ (m : ℕ). done (st_of bs cs' rs' m)) q ∙ p ∙ ap (λ (m : ℕ). line_ran (line_step nos coords paths (m / ref_words) (l + n) (k + n) s) s) e)

-- what is left of a batch after its first n lines says what all says
pub run_left : (f : ℕ → St → Step St ℕ) (a e n : ℕ) (s t : St) → a + n ≤ e → done t ≡ first_ran (λ j. f (a + j)) n s
    → batch_of f (a + n) (e - (a + n)) t ≡ batch_of f a (e - a) s
run_left f a e zero s t h g =
    let q : t ≡ s = cc in
    rw (q, add-zero a)
run_left f a e (suc n) s t h g = go (run_left f a e n s) (first_ran (λ j. f (a + j)) n s) refl g
  where
    go : ((u : St) → a + n ≤ e → done u ≡ first_ran (λ j. f (a + j)) n s → batch_of f (a + n) (e - (a + n)) u ≡ batch_of f a (e - a) s)
        → (o : Ran St ℕ) → first_ran (λ j. f (a + j)) n s ≡ o → done t ≡ and_then o (λ (u : St). line_ran (f (a + n) u) u)
        → batch_of f (a + suc n) (e - (a + suc n)) t ≡ batch_of f a (e - a) s
    go ih (refused u r) q k = let z : ◌≡◌ {A = ℕ} 0 1 = cc in absurd (omega arith)
    go ih (done u) q k =
        let m : a + suc n ≡ a + n + 1 = omega arith in
        ap (λ (i : ℕ). batch_of f i (e - i) t) m
        ∙ batch_goes f (a + n) e u (omega arith) (batch_of f a (e - a) s) (ih u (omega arith) (sym q)) t (ran_taken (f (a + n) u) u t k)
