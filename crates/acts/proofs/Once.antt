-- Where no tile is marked twice and none visited twice, the check of acts against the state before them says what their run says.
-- Assumes nothing.
use mathlib.Core.Path.{◌≡◌, refl, ap, ◌∙◌}
use mathlib.Core.Logic.{◌≢◌}
use mathlib.Core.Bool.{Bool, true, false}
use mathlib.Core.List.{List, [], ◌∷◌}
use Prim.Native.Nat.{ℕ, ◌+◌}
use native.Mathlib.Omega.{arith}
use lib.Dec.{ltb}
use lib.ListN.{get_or, set}
use lib.Seq.{get_or-set_other}
use lib.IntN.{ℤ, pos, ◌+ℤ◌}
use Rattle.lists.specs.Run.{Ran, done, refused, on_step}
use Rattle.panel.specs.Limits.{most_count}
use Rattle.panel.specs.Refusals.{count_over, sum_over}
use Rattle.panel.specs.Verdict.{Verdict}
use Rattle.panel.specs.Verdict.{Fine, Against}
use Rattle.panel.specs.Signed.{in_i32}
use Rattle.acts.specs.Acts.{St, Act, mark, visit, stop, marked, visited, take_if, run_acts, or_else, fine_if, check_no, is_done, verdict_of}

abbrev pub marks_of : List Act → List ℕ
marks_of [] = []
marks_of (mark t ∷ xs) = t ∷ marks_of xs
marks_of (visit t i ∷ xs) = marks_of xs
marks_of (stop n ∷ xs) = marks_of xs

abbrev pub visits_of : List Act → List ℕ
visits_of [] = []
visits_of (mark t ∷ xs) = visits_of xs
visits_of (visit t i ∷ xs) = t ∷ visits_of xs
visits_of (stop n ∷ xs) = visits_of xs

abbrev pub Free : ℕ → List ℕ → Type 0
Free t [] = Unit {0}
Free t (u ∷ us) = (u ≢ t) × Free t us

abbrev pub Once : List ℕ → Type 0
Once [] = Unit {0}
Once (t ∷ ts) = Free t ts × Once ts

module _ {A : Type 0} (d : A) where
  abbrev SameAt : List A → List A → List ℕ → Type 0
  SameAt xs ys [] = Unit {0}
  SameAt xs ys (t ∷ ts) = (get_or xs t d ≡ get_or ys t d) × SameAt xs ys ts

  same_refl : (xs : List A) (ts : List ℕ) → SameAt xs xs ts
  same_refl xs [] = tt
  same_refl xs (t ∷ ts) = (refl, same_refl xs ts)

  same_set : (xs ys : List A) (t : ℕ) (v : A) (ts : List ℕ) → Free t ts → SameAt xs ys ts → SameAt (set xs t v) ys ts
  same_set xs ys t v [] f s = tt
  same_set xs ys t v (u ∷ ts) f s = (get_or-set_other xs t u v d f.0 ∙ s.0, same_set xs ys t v ts f.1 s.1)

by_act : (b : Bool) (s t : St) (n : ℕ) (v : Verdict) (k : St → Ran St ℕ) → (verdict_of (k t) ≡ v) → verdict_of (on_step (take_if b t n) s k) ≡ or_else (fine_if b n) v
by_act true s t n v k e = e
by_act false s t n v k e = refl

module _ (δ : ℤ) (l : ℕ) where
  check_same : (xs : List Act) (s : St) (bs : List ℤ) (cs : List ℕ) → Once (marks_of xs) → Once (visits_of xs)
      → SameAt (pos 0) s.backs bs (marks_of xs) → SameAt 0 s.counts cs (visits_of xs) → verdict_of (run_acts δ l xs s) ≡ check_no δ xs bs cs
  unfolding run_acts check_no
  check_same [] s bs cs om ov sm sv = refl
  check_same (mark t ∷ xs) s bs cs om ov sm sv =
      by_act (in_i32 (get_or s.backs t (pos 0) +ℤ δ)) s (marked δ t s) sum_over (check_no δ xs bs cs) (run_acts δ l xs)
      (check_same xs (marked δ t s) bs cs om.1 ov (same_set (pos 0) s.backs bs t (get_or s.backs t (pos 0) +ℤ δ) (marks_of xs) om.0 sm.1) sv)
      ∙ ap (λ (z : ℤ). or_else (fine_if (in_i32 (z +ℤ δ)) sum_over) (check_no δ xs bs cs)) sm.0
  check_same (visit t i ∷ xs) s bs cs om ov sm sv =
      by_act (ltb (get_or s.counts t 0) most_count) s (visited l t i s) count_over (check_no δ xs bs cs) (run_acts δ l xs)
      (check_same xs (visited l t i s) bs cs om ov.1 sm (same_set 0 s.counts cs t (get_or s.counts t 0 + 1) (visits_of xs) ov.0 sv.1))
      ∙ ap (λ (z : ℕ). or_else (fine_if (ltb z most_count) count_over) (check_no δ xs bs cs)) sv.0
  check_same (stop n ∷ xs) s bs cs om ov sm sv = refl

  pub check_run : (xs : List Act) (s : St) → Once (marks_of xs) → Once (visits_of xs) → verdict_of (run_acts δ l xs s) ≡ check_no δ xs s.backs s.counts
  check_run xs s om ov = check_same xs s s.backs s.counts om ov (same_refl (pos 0) s.backs (marks_of xs)) (same_refl 0 s.counts (visits_of xs))

-- what a verdict tells of the run
pub said_no : (o : Ran St ℕ) (n : ℕ) → verdict_of o ≡ Against n → (s : St) × (o ≡ refused s n)
said_no (refused s m) n e = let q : m ≡ n = cc in (s, ap (refused s) q)
said_no (done s) n e = let z : ◌≡◌ {A = ℕ} 0 1 = cc in absurd (omega arith)

pub said_yes : (o : Ran St ℕ) → verdict_of o ≡ Fine → is_done o ≡ true
said_yes (refused s m) e = let z : ◌≡◌ {A = ℕ} 0 1 = cc in absurd (omega arith)
said_yes (done s) e = refl
