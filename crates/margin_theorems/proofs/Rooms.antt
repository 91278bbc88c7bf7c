-- Room that is enough, by what a caller can sum up. Assumes nothing.
--     steps_under   a line has no more steps than tiles lie between its ends, across and down, and one
--     count_roomy   with room for as many references all lines are counted
use mathlib.Core.Path.{◌≡◌, refl, subst, sym}
use mathlib.Core.List.{List, map}
use Prim.Native.Nat.{ℕ, zero, suc, ◌+◌, ◌≤◌, ◌<◌}
use native.Mathlib.Nat.{le_trans}
use native.Mathlib.Omega.{arith}
use lib.ListN.{get_or}
use lib.IntN.{ℤ}
use lib.Ieee.{Float}
use Rattle.lists.specs.Sums.{sum, from}
use Rattle.panel.specs.Paths.{path_at, paths_answer}
use Rattle.panel.specs.declared.kinds.Path.{Path}
use Rattle.panel.specs.Answer as Answer
use Rattle.walk.specs.Lent.{line_at, walk_at}
use Rattle.walk.specs.declared.kinds.Walk.{Walk}
use Rattle.walk.specs.Walked.{Walked, Refused, Skipped, Line}
use Rattle.walk.proofs.Walks.{line_told}
use Rattle.path_count.specs.Count.{call_answer}
use Rattle.margin.specs.Room.{steps_most}
use Rattle.margin.proofs.Steps.{steps_most_lem}
use Rattle.theorems.specs.Refs.{AllCounted}
use Rattle.theorems.proofs.SumLaws.{start_of}
use Rattle.theorems.proofs.Margins.{walked_few}
use Rattle.margin_theorems.specs.Fit.{Fit, steps_in, steps_at, steps_of, reach_of, room_of}
use Rattle.margin_theorems.proofs.Counts.{fit_boxed, paths_ok, count_all}

sum_most : (f g : ℕ → ℕ) (a n : ℕ) → ((l : ℕ) → l < a + n → f l ≤ g l) → sum (map f (from a n)) ≤ sum (map g (from a n))
sum_most f g a zero h = omega arith
sum_most f g a (suc n) h = omega (arith, h a (omega arith), sum_most f g (suc a) n (λ l k. h l (omega arith)))

module _ (nos : List ℕ) (coords : List Float) (paths : List ℕ) (n : ℕ) (ok : paths_answer paths n ≡ Answer.Done) where
  line_under : (l : ℕ) → Fit nos coords paths l → steps_at nos coords paths l ≤ steps_most (line_at coords l).p0 (line_at coords l).p1
  line_under l fit = go (walk_at nos coords paths l) refl
    where
      most : ℕ
      most = steps_most (line_at coords l).p0 (line_at coords l).p1

      walk : (w : Walk) (b : Path) → walk_at nos coords paths l ≡ Line w b → w.k.count ≤ most
      walk w b e =
          let t = line_told nos coords paths l w b e in
          subst (λ (v : Walk). v.k.count ≤ most) (sym t.walk_is)
          (steps_most_lem (line_at coords l).p0 (line_at coords l).p1 (path_at paths (get_or nos l 0)) fit.reached fit.margin.0 fit.margin.1)

      go : (x : Walked) → walk_at nos coords paths l ≡ x → steps_in x ≤ most
      go (Refused m) e = omega arith
      go Skipped e = omega arith
      go (Line w b) e = omega (arith, walked_few nos coords paths l (fit_boxed nos coords paths n ok l fit) fit.margin w b e, walk w b e)

  pub steps_under : (b : ℕ) → ((l : ℕ) → l < b → Fit nos coords paths l) → steps_of nos coords paths b ≤ reach_of coords b
  steps_under b fit = sum_most (steps_at nos coords paths) (λ l. steps_most (line_at coords l).p0 (line_at coords l).p1) 0 b (λ l h. line_under l (fit l (omega arith)))

pub count_roomy : (b : ℕ) (nos : List ℕ) (coords : List Float) (paths : List ℕ) (n : ℕ) (refs : List ℕ) → call_answer nos coords paths 0 b (start_of n refs) ≡ Answer.Done
    → ((l : ℕ) → l < b → Fit nos coords paths l) → reach_of coords b ≤ room_of refs
    → (bs : List ℤ) × (cs : List ℕ) × (rs : List ℕ) × (m : ℕ) × AllCounted b nos coords paths n refs bs cs rs m
count_roomy b nos coords paths n refs ok fit room =
    count_all b nos coords paths n refs ok fit (le_trans (steps_under nos coords paths n (paths_ok b nos coords paths n refs ok) b fit) room)
