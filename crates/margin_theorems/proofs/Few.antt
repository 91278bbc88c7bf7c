-- After b lines are counted into zeroed tiles, a tile's count is b at most, for a line visits no tile twice; and there are no more references than steps.
-- Assumes nothing.
use mathlib.Core.Path.{◌≡◌, refl, ap, ◌∙◌}
use mathlib.Core.List.{List, [], ◌∷◌, map}
use Prim.Native.Nat.{ℕ, zero, suc, ◌+◌, ◌-◌, ◌/◌, ◌≤◌, ◌<◌}
use native.Mathlib.Decide.{ℕ_discrete, dec_lt}
use native.Mathlib.Omega.{arith}
use lib.ListN.{length, get_or, length-append, length-replicate, get_or-eq_default}
use lib.Ieee.{Float}
use lib.IntN.{ℤ}
use Rattle.lists.specs.Run.{taken, done, run, run_cons_done, act_all}
use Rattle.lists.specs.Sums.{sum, from, length_from}
use Rattle.lists.specs.Occ.{is, occ, is_same, is_other}
use Rattle.lists.specs.Tally.{zeros, zeros_at}
use Rattle.panel.specs.Widths.{ref_words}
use Rattle.panel.specs.Paths.{paths_answer}
use Rattle.panel.specs.Answer.{Done}
use Rattle.walk.specs.Lent.{walk_at}
use Rattle.walk.specs.Walked.{Walked, Refused, Skipped, Line}
use Rattle.acts.specs.Acts.{St, st_of, Act, mark, visit, stop}
use Rattle.acts.specs.Line.{refs_of, plan_acts, at_line, batch_of}
use Rattle.acts.proofs.Once as Once
use Rattle.acts.proofs.Once.{Free, Once}
use Rattle.acts.proofs.Whole.{plan_refs_lem}
use Rattle.walked_lines.specs.Line.{plan_of, line_step}
use Rattle.walked_lines.proofs.Lines.{not_far}
use Rattle.theorems.specs.Drawn.{drawn_at, drawn, acts_by, tiles_in, tiles_of}
use Rattle.theorems.specs.Events.{events_in, events_at, events_of}
use Rattle.theorems.specs.Refs.{AllCounted}
use Rattle.theorems.proofs.Acts.{walk_is}
use Rattle.theorems.proofs.Own.{took, NearWalk}
use Rattle.theorems.proofs.Counting.{at_taken}
use Rattle.theorems.proofs.Isolation.{count_seen}
use Rattle.theorems.proofs.SumLaws.{passed, went, counted_all, events, whole, start_of}
use Rattle.theorems.proofs.Calm.{plan_once}
use Rattle.theorems.proofs.Framing.{counts_long}
use Rattle.margin_theorems.specs.Fit.{steps_in, steps_at, steps_of}

-- ---- a line visits a tile once at most

occ_free : (t : ℕ) (xs : List Act) → Free t (Once.visits_of xs) → occ t (tiles_in xs) ≡ 0
occ_free t [] f = refl
occ_free t (mark u ∷ xs) f = occ_free t xs f
occ_free t (visit u i ∷ xs) f = omega (arith, is_other u t f.0, occ_free t xs f.1)
occ_free t (stop n ∷ xs) f = occ_free t xs f

one_visit : (t : ℕ) (xs : List Act) → Once (Once.visits_of xs) → occ t (tiles_in xs) ≤ 1
one_visit t [] o = omega arith
one_visit t (mark u ∷ xs) o = one_visit t xs o
one_visit t (visit u i ∷ xs) o = go (ℕ_discrete u t) (one_visit t xs o.1)
  where
    go : Dec (u ≡ t) → occ t (tiles_in xs) ≤ 1 → is u t + occ t (tiles_in xs) ≤ 1
    go (yes e) ih = omega (arith, is_same u t e, occ_free t xs (rw e at o.0))
    go (no e) ih = omega (arith, is_other u t e)
one_visit t (stop n ∷ xs) o = one_visit t xs o

module _ (nos : List ℕ) (coords : List Float) (paths : List ℕ) (n : ℕ) (ok : paths_answer paths n ≡ Done) where
  line_visits : (room l t : ℕ) (s u : St) → line_step nos coords paths room l l s ≡ taken u → occ t (tiles_of paths (drawn_at nos coords l)) ≤ 1
  line_visits room l t s u e =
      let k = took nos coords paths n ok room l s u e in
      rw (← walk_is nos coords paths l) (go (walk_at nos coords paths l) refl k.near)
    where
      go : (x : Walked) → walk_at nos coords paths l ≡ x → NearWalk x → occ t (tiles_in (acts_by x)) ≤ 1
      go (Refused m) q f = omega arith
      go Skipped q f = omega arith
      go (Line v b) q f =
          one_visit t (plan_acts (plan_of v b)) (plan_once nos coords paths n ok l v b q (not_far (plan_of v b).imin (plan_of v b).imax f)).1

  lines_visit : (room t : ℕ) (ls : List ℕ) (s u : St) → run (λ l v. at_line l (line_step nos coords paths room l l v)) ls s ≡ done u → (w : ℕ)
      → act_all (λ d w. w + occ t (tiles_of paths d)) (map (drawn_at nos coords) ls) w ≤ w + length ls
  lines_visit room t [] s u e w = omega arith
  lines_visit room t (l ∷ ls) s u e w =
      let r = run_cons_done (λ l v. at_line l (line_step nos coords paths room l l v)) l ls s u e in
      let one = line_visits room l t s r.0 (at_taken l (line_step nos coords paths room l l s) r.0 r.1) in
      let rest = lines_visit room t ls r.0 u r.2 (w + occ t (tiles_of paths (drawn_at nos coords l))) in
      omega arith

-- ---- the steps of lines, and their references

length_events : (l : ℕ) (xs : List Act) → length (events_in l xs) ≡ length (refs_of xs)
length_events l [] = refl
length_events l (mark t ∷ xs) = length_events l xs
length_events l (visit t i ∷ xs) = ap suc (length_events l xs)
length_events l (stop n ∷ xs) = length_events l xs

module _ (nos : List ℕ) (coords : List Float) (paths : List ℕ) where
  line_events : (l : ℕ) → length (events_at nos coords paths l) ≤ steps_at nos coords paths l
  line_events l = rw (← walk_is nos coords paths l) (go (walk_at nos coords paths l))
    where
      go : (x : Walked) → length (events_in l (acts_by x)) ≤ steps_in x
      go (Refused m) = omega arith
      go Skipped = omega arith
      go (Line w b) = omega (arith, length_events l (plan_acts (plan_of w b)), plan_refs_lem (plan_of w b))

  lines_events : (ls : List ℕ) → length (events_of nos coords paths ls) ≤ sum (map (steps_at nos coords paths) ls)
  lines_events [] = omega arith
  lines_events (l ∷ ls) = omega (arith, length-append (events_at nos coords paths l) (events_of nos coords paths ls), line_events l, lines_events ls)

-- the part up to l, and l
part_of : (f : ℕ → ℕ) (a k n : ℕ) → k < n → sum (map f (from a k)) + f (a + k) ≤ sum (map f (from a n))
part_of f a k zero h = absurd (omega arith)
part_of f a zero (suc n) h = let z : a + 0 ≡ a = omega arith in rw z (omega arith)
part_of f a (suc k) (suc n) h = let z : a + suc k ≡ suc a + k = omega arith in rw z (omega (arith, part_of f (suc a) k n (omega arith)))

pub steps_part : (nos : List ℕ) (coords : List Float) (paths : List ℕ) (l b : ℕ) → l < b → steps_of nos coords paths l + steps_at nos coords paths l ≤ steps_of nos coords paths b
steps_part nos coords paths l b h =
    let z : 0 + l ≡ l = omega arith in
    rw z at (part_of (steps_at nos coords paths) 0 l b h)

-- ---- after a count into zeroed tiles

module _ (b : ℕ) (nos : List ℕ) (coords : List Float) (paths : List ℕ) (n : ℕ) (refs : List ℕ) (bs : List ℤ) (cs rs : List ℕ) (m : ℕ)
    (all : AllCounted b nos coords paths n refs bs cs rs m) where
  -- A tile's count is at most the number of lines counted
  pub count_most : (t : ℕ) → get_or cs t 0 ≤ b
  unfolding batch_of
  count_most t = go (dec_lt t n)
    where
      ran : run (λ l v. at_line l (line_step nos coords paths (length refs / ref_words) l l v)) (from 0 b) (start_of n refs) ≡ done (st_of bs cs rs m)
      ran = let z : b - 0 ≡ b = omega arith in rw z at (went b nos coords paths n refs bs cs rs m all).ran

      seen : t < n → get_or cs t 0 ≡ act_all (λ d w. w + occ t (tiles_of paths d)) (drawn nos coords b) 0
      seen h =
          let k : length (zeros n) ≡ n = length-replicate n 0 in
          ap (λ (l : List ℕ). get_or l t 0) (counted_all b nos coords paths n refs bs cs rs m all).counts
          ∙ count_seen paths t (drawn nos coords b) (zeros n) (omega arith)
          ∙ ap (act_all (λ d w. w + occ t (tiles_of paths d)) (drawn nos coords b)) (zeros_at n t)

      go : Dec (t < n) → get_or cs t 0 ≤ b
      go (yes h) =
          omega (
            arith,
            seen h,
            lines_visit nos coords paths n (passed b nos coords paths n refs bs cs rs m all) (length refs / ref_words) t (from 0 b) (start_of n refs) (st_of bs cs rs m) ran 0,
            length_from 0 b,
          )
      go (no h) = omega (arith, get_or-eq_default cs 0 {n = t} (omega (arith, counts_long b nos coords paths n refs bs cs rs m all)))

  -- There are no more references than steps
  pub made_most : m ≤ steps_of nos coords paths b
  unfolding events
  made_most = omega (arith, (whole b nos coords paths n refs bs cs rs m all).made, lines_events nos coords paths (from 0 b))
