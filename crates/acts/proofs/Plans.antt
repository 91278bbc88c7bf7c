-- A line takes no tile twice, where two of its steps never fall on one tile and no step marks the first column: so its check tells of its run.
-- Assumes nothing.
use mathlib.Core.Path.{◌≡◌, refl, sym, ap, ◌∙◌, subst}
use mathlib.Core.Logic.{◌≢◌}
use mathlib.Core.Bool.{Bool, true, false}
use mathlib.Core.List.{List, ◌++◌}
use Prim.Native.Nat.{ℕ, zero, suc, ◌+◌, ◌-◌, ◌*◌, ◌<◌, ◌≤◌}
use native.Mathlib.Omega.{arith}
use Rattle.panel.proofs.PathLaws.{cell_once}
use Rattle.acts.specs.Acts.{Act, Hit, on, off, row_acts, step_acts, steps_acts}
use Rattle.acts.specs.Line.{Plan, plan_acts}
use Rattle.acts.proofs.Once.{marks_of, visits_of, Free, Once}

-- what is asked of the steps i with Few i: two on one tile are one, and a mark is not in the first column
pub record Apart (f : ℕ → Hit) (few : ℕ) (first width : ℕ) : Type 0 where
  pub one : (i j t : ℕ) (x y : Bool) → i < few → j < few → f i ≡ on t x → f j ≡ on t y → i ≡ j
  pub right : (i t r : ℕ) → i < few → f i ≡ on t true → t + 1 ≢ first + r * width

module _ (f : ℕ → Hit) (few first width : ℕ) (a : Apart f few first width) where
  -- ---- visits
  free_visits : (k i t : ℕ) → ((j u : ℕ) (x : Bool) → i ≤ j → j < i + k → f j ≡ on u x → u ≢ t) → Free t (visits_of (steps_acts f k i))
  unfolding steps_acts
  free_visits zero i t h = tt
  free_visits (suc k) i t h = go (f i) refl (free_visits k (suc i) t (λ j u x p q. h j u x (omega arith) (omega arith)))
    where
      go : (s : Hit) → f i ≡ s → Free t (visits_of (steps_acts f k (suc i))) → Free t (visits_of (step_acts s i ++ steps_acts f k (suc i)))
      go off e r = r
      go (on u true) e r = (h i u true (omega arith) (omega arith) e, r)
      go (on u false) e r = (h i u false (omega arith) (omega arith) e, r)

  once_visits : (k i : ℕ) → ((j : ℕ) → i ≤ j → j < i + k → j < few) → Once (visits_of (steps_acts f k i))
  unfolding steps_acts
  once_visits zero i h = tt
  once_visits (suc k) i h = go (f i) refl (once_visits k (suc i) (λ j p q. h j (omega arith) (omega arith)))
    where
      new : (u : ℕ) (x : Bool) → f i ≡ on u x → Free u (visits_of (steps_acts f k (suc i)))
      new u x e =
          free_visits k (suc i) u
          (λ j v y p q g d. omega (arith, a.one j i u y x (h j (omega arith) (omega arith)) (h i (omega arith) (omega arith)) (g ∙ ap (λ (n : ℕ). on n y) d) e))

      go : (s : Hit) → f i ≡ s → Once (visits_of (steps_acts f k (suc i))) → Once (visits_of (step_acts s i ++ steps_acts f k (suc i)))
      go off e o = o
      go (on u true) e o = (new u true e, o)
      go (on u false) e o = (new u false e, o)

  -- ---- marks
  free_marks : (k i t : ℕ) → ((j u : ℕ) → i ≤ j → j < i + k → f j ≡ on u true → u + 1 ≢ t) → Free t (marks_of (steps_acts f k i))
  unfolding steps_acts
  free_marks zero i t h = tt
  free_marks (suc k) i t h = go (f i) refl (free_marks k (suc i) t (λ j u p q. h j u (omega arith) (omega arith)))
    where
      go : (s : Hit) → f i ≡ s → Free t (marks_of (steps_acts f k (suc i))) → Free t (marks_of (step_acts s i ++ steps_acts f k (suc i)))
      go off e r = r
      go (on u true) e r = (h i u (omega arith) (omega arith) e, r)
      go (on u false) e r = r

  once_marks : (k i : ℕ) → ((j : ℕ) → i ≤ j → j < i + k → j < few) → Once (marks_of (steps_acts f k i))
  unfolding steps_acts
  once_marks zero i h = tt
  once_marks (suc k) i h = go (f i) refl (once_marks k (suc i) (λ j p q. h j (omega arith) (omega arith)))
    where
      new : (u : ℕ) → f i ≡ on u true → Free (u + 1) (marks_of (steps_acts f k (suc i)))
      new u e =
          free_marks k (suc i) (u + 1)
          (λ j v p q g d. let s : v ≡ u = omega arith in omega (arith, a.one j i u true true (h j (omega arith) (omega arith)) (h i (omega arith) (omega arith)) (g ∙ ap (λ (n : ℕ). on n true) s) e))

      go : (s : Hit) → f i ≡ s → Once (marks_of (steps_acts f k (suc i))) → Once (marks_of (step_acts s i ++ steps_acts f k (suc i)))
      go off e o = o
      go (on u true) e o = (new u e, o)
      go (on u false) e o = o

-- ---- with the rows before
module _ (first top width : ℕ) (wide : 0 < width) (ys : List Act) where
  rows_visits : (k y : ℕ) → visits_of (row_acts first top width k y ++ ys) ≡ visits_of ys
  unfolding row_acts
  rows_visits zero y = refl
  rows_visits (suc k) y = rows_visits k (suc y)

  row_free : (k y q : ℕ) → top + q < y → Free (first + q * width) (marks_of ys) → Free (first + q * width) (marks_of (row_acts first top width k y ++ ys))
  unfolding row_acts
  row_free zero y q h f = f
  row_free (suc k) y q h f =
      ((λ e. omega (arith, (cell_once width (y - top) 0 q 0 wide wide (omega arith)).0)), row_free k (suc y) q (omega arith) f)

  rows_marks : (k y : ℕ) → top ≤ y → ((q : ℕ) → Free (first + q * width) (marks_of ys)) → Once (marks_of ys) → Once (marks_of (row_acts first top width k y ++ ys))
  unfolding row_acts
  rows_marks zero y h f o = o
  rows_marks (suc k) y h f o = (row_free k (suc y) (y - top) (omega arith) (f (y - top)), rows_marks k (suc y) (omega arith) f o)

module _ (p : Plan) (few : ℕ) (a : Apart p.hit few p.rows.first p.rows.width) (h : p.imin < p.imax → p.imax ≤ few) where
  below : (j : ℕ) → p.imin ≤ j → j < p.imin + (p.imax - p.imin) → j < few
  below j q r = let g : p.imax ≤ few = h (omega arith) in omega arith

  steps : List Act
  steps = steps_acts p.hit (p.imax - p.imin) p.imin

  pub plan_visits : 0 < p.rows.width → Once (visits_of (plan_acts p))
  unfolding steps
  plan_visits w =
      subst Once (sym (rows_visits p.rows.first p.rows.top p.rows.width w steps (p.rows.high - p.rows.low) p.rows.low))
      (once_visits p.hit few p.rows.first p.rows.width a (p.imax - p.imin) p.imin below)

  pub plan_marks : 0 < p.rows.width → p.rows.top ≤ p.rows.low → Once (marks_of (plan_acts p))
  unfolding steps
  plan_marks w t =
      rows_marks p.rows.first p.rows.top p.rows.width w steps (p.rows.high - p.rows.low) p.rows.low t
      (λ q. free_marks p.hit few p.rows.first p.rows.width a (p.imax - p.imin) p.imin (p.rows.first + q * p.rows.width) (λ j u b c e. a.right j u q (below j b c) e))
      (once_marks p.hit few p.rows.first p.rows.width a (p.imax - p.imin) p.imin below)
