-- A line that lies inside its path's box: its acts are its steps alone, so what they leave is its outcome.
-- Assumes nothing.
use mathlib.Core.Path.{◌≡◌, refl, sym, ap, ◌∙◌, subst}
use mathlib.Core.Bool.{Bool, true, false, not, ◌&&◌, ◌||◌, false≢true}
use mathlib.Core.List.{List}
use Prim.Native.Nat.{ℕ, ◌+◌, ◌-◌, ◌/◌, ◌<◌, ◌≤◌}
use native.Mathlib.Nat.{le_refl}
use native.Mathlib.Omega.{arith}
use lib.Dec.{ltb}
use lib.ListN.{length}
use lib.IntN.{ℤ}
use lib.Ieee.{Float}
use borrow.Author.Tests.{ltb-false, le-ltb}
use Rattle.lists.specs.Run.{done}
use Rattle.panel.specs.Limits.{most_steps, most_slots}
use Rattle.panel.specs.Widths.{ref_words, step_range}
use Rattle.panel.specs.declared.kinds.Path.{Path}
use Rattle.panel.specs.Verdict.{Fine}
use Rattle.walk.specs.Lent.{walk_at}
use Rattle.walk.specs.declared.kinds.Pace.{Pace}
use Rattle.walk.specs.Walked.{Walked}
use Rattle.walk.proofs.Walks.{StartsAt}
use Rattle.clip.specs.declared.Clip.{Clip}
use Rattle.within.specs.Within.{Unclipped}
use Rattle.acts.specs.Acts.{St, st_of, Act, steps_acts, run_acts, check_no, is_done, delta_of}
use Rattle.acts.specs.Line.{plan_acts}
use Rattle.acts.proofs.Laws.{rows_end}
use Rattle.acts.proofs.Plans.{plan_visits, plan_marks}
use Rattle.acts.proofs.Lines.{plan_fine}
use Rattle.hits.specs.Steps.{hit_at}
use Rattle.hits.specs.Notes.{hits_by, Notes, note_words, OnTiles}
use Rattle.few_steps.specs.Few.{FewMet}
use Rattle.inside_lines.specs.Direct.{DirectMet}
use Rattle.walked_lines.specs.Line.{plan_by, walked_step, line_ran, Lent}
use Rattle.few_steps.specs.Direct.{Direct}
use Rattle.few_steps.specs.Direct.{On, Other}
use Rattle.hits.proofs.StepLaws.{apart}
use Rattle.hits.proofs.NoteLaws.{none_leaves, notes_acts}
use Rattle.walked_lines.proofs.Lines.{on_tiles, walkable, starts, walk_done}

-- three tests, none of which holds
pub none : (a b c d e f : ℕ) → (ltb a b || ltb c d || ltb e f) ≡ false → (b ≤ a) × (d ≤ c) × (f ≤ e)
none a b c d e f h = go (ltb a b) refl (ltb c d) refl (ltb e f) refl h
  where
    go : (p : Bool) → ltb a b ≡ p → (q : Bool) → ltb c d ≡ q → (r : Bool) → ltb e f ≡ r → (p || q || r) ≡ false → (b ≤ a) × (d ≤ c) × (f ≤ e)
    go false i false j false k g = (ltb-false a b i, ltb-false c d j, ltb-false e f k)
    go true i q j r k g = absurd (false≢true (sym g))
    go false i true j r k g = absurd (false≢true (sym g))
    go false i false j true k g = absurd (false≢true (sym g))

-- so many steps are in range
pub few : (n : ℕ) → n ≤ note_words → n ≤ step_range
unfolding step_range
few n h = omega arith

-- ---- its acts

-- steps 0 up to n, and no row
abbrev all_steps : Path → ℕ → Clip
all_steps b n = record { imin = 0; imax = n; ymin = b.y0; ymax = 0 }

steps_alone : (up : Bool) (w : Pace) (b : Path) (n : ℕ) → plan_acts (plan_by up w b (all_steps b n)) ≡ steps_acts (hit_at w b) (n - 0) 0
steps_alone up w b n = rw (rows_end b.first b.y0 (b.x1 - b.x0) b.y0 0 (omega arith)) refl

-- steps that pass their check run through
steps_fine : (up : Bool) (w : Pace) (b : Path) (n l : ℕ) (s : St) (backs counts : ℕ) → OnTiles b backs counts → StartsAt w → b.x0 < b.x1 → n ≤ step_range
    → Fine ≡ check_no (delta_of up) (steps_acts (hit_at w b) (n - 0) 0) s.backs s.counts → is_done (run_acts (delta_of up) l (steps_acts (hit_at w b) (n - 0) 0) s) ≡ true
steps_fine up w b n l s backs counts o g wide m q =
    let p = plan_by up w b (all_steps b n) in
    let e = steps_alone up w b n in
    subst (λ (xs : List Act). is_done (run_acts (delta_of up) l xs s) ≡ true) e
    (plan_fine 0 l p s
    (plan_marks p step_range (apart w b g o.boxed) (λ h. m) (omega (arith, wide)) (le_refl b.y0))
    (plan_visits p step_range (apart w b g o.boxed) (λ h. m) (omega (arith, wide)))
    Fine (q ∙ ap (λ (xs : List Act). check_no (delta_of up) xs s.backs s.counts) (sym e)) refl)

-- ---- the line as it is lent

module _ (nos : List ℕ) (coords : List Float) (paths : List ℕ) (k : ℕ) (pace : Pace) (b : Path) (n : ℕ) (up : Bool) (u : Unclipped nos coords paths k pace b n up) where
  module _ (backs counts : ℕ) (t : Lent paths backs counts) where
    pub on_box : OnTiles b backs counts
    on_box = on_tiles nos coords paths k u.w b u.walked backs counts t

    pub starting : StartsAt pace
    starting = subst StartsAt (sym u.paced) (starts u.w b (walkable nos coords paths k u.w b u.walked backs counts t))

    -- where its steps pass their check, those of its words run through
    pub direct_fine : (l : ℕ) (s : St) (ks : List ℕ) (tiles : ℕ) → n ≤ note_words → Notes (hit_at pace b) 0 (n - 0) ks tiles
        → Fine ≡ check_no (delta_of up) (steps_acts (hit_at pace b) (n - 0) 0) s.backs s.counts
        → is_done (run_acts (delta_of up) l (steps_acts (hits_by ks 0) (n - 0) 0) s) ≡ true
    direct_fine l s ks tiles h m q =
        subst (λ (xs : List Act). is_done (run_acts (delta_of up) l xs s) ≡ true) (notes_acts (hit_at pace b) 0 n ks tiles m)
        (steps_fine up pace b n l s backs counts on_box starting (walkable nos coords paths k u.w b u.walked backs counts t).wide (few n h) q)

  near : n ≤ note_words → (ltb 0 n && ltb most_steps n) ≡ false
  unfolding most_steps
  near h = none_leaves (ltb 0 n) (ltb most_steps n) (le-ltb most_steps n (omega arith))

  roomy : (room made : ℕ) → made + n ≤ room → made + n ≤ most_slots → (ltb room (made + (n - 0)) || ltb most_slots (made + (n - 0))) ≡ false
  roomy room made h m = rw (le-ltb room (made + (n - 0)) (omega arith), le-ltb most_slots (made + (n - 0)) (omega arith))

  -- and what its steps leave is the line's outcome
  pub direct_ran : (l made : ℕ) (bs : List ℤ) (cs rs : List ℕ) (bs' : List ℤ) (cs' rs' : List ℕ) → n ≤ note_words
      → made + n ≤ length rs / ref_words → made + n ≤ most_slots
      → done (st_of bs' cs' rs' (made + n)) ≡ run_acts (delta_of up) l (steps_acts (hit_at pace b) (n - 0) 0) (st_of bs cs rs made)
      → done (st_of bs' cs' rs' (made + n)) ≡ line_ran (walked_step (length rs / ref_words) l (walk_at nos coords paths k) (st_of bs cs rs made)) (st_of bs cs rs made)
  direct_ran l made bs cs rs bs' cs' rs' h r m q =
      let s = st_of bs cs rs made in
      let w = u.w in
      let d = not w.e.is_down in
      let runs : done (st_of bs' cs' rs' (made + n)) ≡ run_acts (delta_of d) l (plan_acts (plan_by d w.pace b (all_steps b n))) s =
      q
      ∙ ap (λ (x : Bool). run_acts (delta_of x) l (steps_acts (hit_at pace b) (n - 0) 0) s) u.turned
      ∙ ap (λ (x : Pace). run_acts (delta_of d) l (steps_acts (hit_at x b) (n - 0) 0) s) u.paced
      ∙ ap (λ (xs : List Act). run_acts (delta_of d) l xs s) (sym (steps_alone d w.pace b n)) in
      walk_done (length rs / ref_words) l w b (all_steps b n) (sym u.clipped) s (near h) (roomy (length rs / ref_words) made r m) (st_of bs' cs' rs' (made + n)) runs
      ∙ ap (λ (x : Walked). line_ran (walked_step (length rs / ref_words) l x s) s) (sym u.walked)

  -- by their words too
  pub direct_done : (l made : ℕ) (bs : List ℤ) (cs rs : List ℕ) (bs' : List ℤ) (cs' rs' ks : List ℕ) (tiles : ℕ) → n ≤ note_words
      → made + n ≤ length rs / ref_words → made + n ≤ most_slots → Notes (hit_at pace b) 0 (n - 0) ks tiles
      → done (st_of bs' cs' rs' (made + (n - 0))) ≡ run_acts (delta_of up) l (steps_acts (hits_by ks 0) (n - 0) 0) (st_of bs cs rs made)
      → done (st_of bs' cs' rs' (made + n)) ≡ line_ran (walked_step (length rs / ref_words) l (walk_at nos coords paths k) (st_of bs cs rs made)) (st_of bs cs rs made)
  direct_done l made bs cs rs bs' cs' rs' ks tiles h r m ts q =
      let same : made + n ≡ made + (n - 0) = omega arith in
      direct_ran l made bs cs rs bs' cs' rs' h r m
      (ap (λ (j : ℕ). done (st_of bs' cs' rs' j)) same ∙ q
      ∙ ap (λ (xs : List Act). run_acts (delta_of up) l xs (st_of bs cs rs made)) (sym (notes_acts (hit_at pace b) 0 n ks tiles ts)))

  -- what is said of a line of few steps is said of it
  pub direct_few : (l made : ℕ) (bs : List ℤ) (cs rs : List ℕ) (bs' : List ℤ) (cs' rs' : List ℕ) → n ≤ note_words
      → made + n ≤ length rs / ref_words → made + n ≤ most_slots → (r : Direct) → FewMet pace b up l n made bs cs rs bs' cs' rs' r
      → DirectMet (walk_at nos coords paths k) (length rs / ref_words) l made bs cs rs bs' cs' rs' r
  direct_few l made bs cs rs bs' cs' rs' h r m (On j) f =
      subst (λ (x : ℕ). DirectMet (walk_at nos coords paths k) (length rs / ref_words) l made bs cs rs bs' cs' rs' (On x)) (sym f.0) (direct_ran l made bs cs rs bs' cs' rs' h r m f.1)
  direct_few l made bs cs rs bs' cs' rs' h r m Other f = f
