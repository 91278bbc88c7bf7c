-- Where counting is done, the references that it made are the number that `sizes` tells. Assumes nothing.
use mathlib.Core.Path.{◌≡◌, sym, ap, ◌∙◌}
use mathlib.Core.Bool.{Bool, true, false}
use mathlib.Core.List.{List}
use Prim.Native.Nat.{ℕ, zero, suc, ◌+◌, ◌-◌, ◌≤◌}
use native.Mathlib.Omega.{arith}
use lib.Dec.{leb}
use lib.Ieee.{Float}
use borrow.Author.Tests.{le-ltb}
use Rattle.lists.specs.Run.{Step, taken, halted, done, on_step, run, run_cons_done}
use Rattle.lists.specs.Sums.{from}
use Rattle.panel.specs.Limits.{most_lines, most_slots}
use Rattle.panel.specs.Refusals.{line_number}
use Rattle.walk.specs.Lent.{walk_at}
use Rattle.walk.specs.Walked.{Walked, Refused as WalkRefused, Skipped, Line}
use Rattle.acts.specs.Acts.{St}
use Rattle.acts.specs.Line.{Plan, halt_if, plan_step, at_line, batch_of}
use Rattle.walked_lines.specs.Line.{plan_of, walked_step, line_step}
use Rattle.path_count.specs.Count.{batch}
use Rattle.sizes.specs.Refs.{stop_if, plan_size, walked_size, line_size, size_at, lines_size}
use Rattle.size_theorems.proofs.Steps.{plan_exact, plan_near}

plan_same : (room l : ℕ) (p : Plan) (s u : St) → plan_step room l p s ≡ taken u → plan_size p s.made ≡ taken u.made
unfolding plan_size
plan_same room l p s u e =
    let x = plan_exact room l p s u e in
    let k : s.made + (p.imax - p.imin) ≤ most_slots = omega (arith, x.0, x.1) in
    rw (plan_near room l p s u e, le-ltb most_slots (s.made + (p.imax - p.imin)) k) (ap taken (sym x.0))

module _ (nos : List ℕ) (coords : List Float) (paths : List ℕ) where
  -- a line that counting takes
  pub line_same : (room l : ℕ) (s u : St) → line_step nos coords paths room l l s ≡ taken u → line_size nos coords paths l s.made ≡ taken u.made
  unfolding line_step line_size
  line_same room l s u e = go (leb most_lines l) (walk_at nos coords paths l) e
    where
      go : (b : Bool) (x : Walked) → halt_if b line_number (walked_step room l x s) ≡ taken u → stop_if b line_number (walked_size x s.made) ≡ taken u.made
      go true x q = let z : ◌≡◌ {A = ℕ} 0 1 = cc in absurd (omega arith)
      go false (WalkRefused n) q = let z : ◌≡◌ {A = ℕ} 0 1 = cc in absurd (omega arith)
      go false Skipped q = let r : s ≡ u = cc in ap (λ (t : St). taken t.made) r
      go false (Line w b) q = plan_same room l (plan_of w b) s u q

  at_taken : (l : ℕ) (o : Step St ℕ) (u : St) → at_line l o ≡ taken u → o ≡ taken u
  at_taken l (taken v) u e = let q : v ≡ u = cc in ap taken q
  at_taken l (halted n) u e = let z : ◌≡◌ {A = ℕ} 0 1 = cc in absurd (omega arith)

  runs_same : (room n a : ℕ) (s u : St) → run (λ l t. at_line l (line_step nos coords paths room l l t)) (from a n) s ≡ done u
      → run (λ l m. size_at l (line_size nos coords paths l m)) (from a n) s.made ≡ done u.made
  runs_same room zero a s u e = let q : s ≡ u = cc in ap (λ (t : St). done t.made) q
  runs_same room (suc n) a s u e =
      let w = run_cons_done (λ l t. at_line l (line_step nos coords paths room l l t)) a (from (suc a) n) s u e in
      let f = line_same room a s w.0 (at_taken a (line_step nos coords paths room a a s) w.0 w.1) in
      ap (λ (o : Step ℕ ℕ). on_step (size_at a o) s.made (run (λ l m. size_at l (line_size nos coords paths l m)) (from (suc a) n))) f
      ∙ runs_same room n (suc a) w.0 u w.2

  -- a batch that is done
  pub batch_same : (room a b : ℕ) (s u : St) → batch nos coords paths room a b s ≡ done u → lines_size nos coords paths a b s.made ≡ done u.made
  unfolding lines_size batch_of
  batch_same room a b s u e = runs_same room (b - a) a s u e
