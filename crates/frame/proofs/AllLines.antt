-- Counting stops at the line whose number is the limit, so any end past it is as good as the number of lines lent. Assumes nothing.
use mathlib.Core.Path.{◌≡◌, refl, sym, ap, ◌∙◌}
use mathlib.Core.Bool.{Bool, true, false}
use mathlib.Core.List.{List}
use Prim.Native.Nat.{ℕ, ◌+◌, ◌/◌, ◌≤◌, ◌<◌, min}
use native.Mathlib.Omega.{arith}
use lib.Dec.{eqb, leb}
use lib.ListN.{length}
use lib.IntN.{ℤ}
use lib.Ieee.{Float}
use borrow.Author.Tests.{le-leb, leb-true, leb-false, eqb-true}
use Rattle.lists.specs.Run.{halted, Ran, done, refused, and_then}
use Rattle.panel.specs.Limits.{most_lines}
use Rattle.panel.specs.Refusals.{line_number}
use Rattle.panel.specs.Widths.{line_floats, ref_words}
use Rattle.panel.specs.Kinds.{running_of}
use Rattle.panel.specs.Checks.{first_no}
use Rattle.acts.specs.Acts.{St, st_of}
use Rattle.acts.specs.Line.{Refusal}
use Rattle.acts.proofs.Lines.{batch_stops}
use Rattle.walked_lines.specs.Line.{line_step}
use Rattle.path_count.specs.Count.{batch, batch_told, lent_checks, call_answer, counted}
use Rattle.path_count.proofs.Batches.{batches}

module _ (nos : List ℕ) (coords : List Float) (paths : List ℕ) (room m : ℕ) (most : most_lines ≤ m) where
  over : (u : St) → line_step nos coords paths room m m u ≡ halted line_number
  unfolding line_step
  over u = rw (le-leb most_lines m most)

  stops : (c : ℕ) → m < c → (u : St) → refused u (record { no = line_number; line = m }) ≡ batch nos coords paths room m c u
  stops c h u = batch_stops (λ l. line_step nos coords paths room l l) m c u h (batch nos coords paths room m c u) refl line_number (over u)

  onward : (c d : ℕ) → m < c → m < d → (o : Ran St Refusal)
      → batch_told c (and_then o (batch nos coords paths room m c)) ≡ batch_told d (and_then o (batch nos coords paths room m d))
  onward c d h k (done u) = ap (batch_told c) (sym (stops c h u)) ∙ ap (batch_told d) (stops d k u)
  onward c d h k (refused u why) = refl

  past : (c d : ℕ) → m < c → m < d → (s : St) → batch_told c (batch nos coords paths room 0 c s) ≡ batch_told d (batch nos coords paths room 0 d s)
  past c d h k s =
      ap (batch_told c) (batches nos coords paths room 0 m c s (omega arith) (omega arith))
      ∙ onward c d h k (batch nos coords paths room 0 m s)
      ∙ sym (ap (batch_told d) (batches nos coords paths room 0 m d s (omega arith) (omega arith)))

-- the checks of the lengths don't tell such ends apart
same_checks : (nn nc nb nt nr e : ℕ) → e ≤ nn → first_no (lent_checks nn nc nb nt nr 0 e) ≡ first_no (lent_checks nn nc nb nt nr 0 nn)
same_checks nn nc nb nt nr e h = go (eqb nn (nc / line_floats)) refl
  where
    go : (b : Bool) → eqb nn (nc / line_floats) ≡ b → first_no (lent_checks nn nc nb nt nr 0 e) ≡ first_no (lent_checks nn nc nb nt nr 0 nn)
    go false q = rw q
    go true q =
        let n : nn ≡ nc / line_floats = eqb-true nn (nc / line_floats) q in
        let h₁ : e ≤ nc / line_floats = omega arith in
        let h₂ : nn ≤ nc / line_floats = omega arith in
        let k : 0 ≤ e = omega arith in
        let k₂ : 0 ≤ nn = omega arith in
        rw (le-leb e (nc / line_floats) h₁, le-leb nn (nc / line_floats) h₂, le-leb 0 e k, le-leb 0 nn k₂)

module _ (nos : List ℕ) (coords : List Float) (paths : List ℕ) (bs : List ℤ) (cs rs : List ℕ) where
  up_to : (e : ℕ) → e ≤ length nos
      → batch_told e (batch nos coords paths (length rs / ref_words) 0 e (st_of bs cs rs 0)) ≡ batch_told (length nos) (batch nos coords paths (length rs / ref_words) 0 (length nos) (st_of bs cs rs 0))
      → counted (running_of 0 0) e nos coords paths bs cs rs ≡ counted (running_of 0 0) (length nos) nos coords paths bs cs rs
  unfolding counted call_answer
  up_to e h q = rw (same_checks (length nos) (length coords) (length bs) (length cs) (length rs) e h, q)

  pub all_lines : counted (running_of 0 0) (min (length nos) (most_lines + 1)) nos coords paths bs cs rs ≡ counted (running_of 0 0) (length nos) nos coords paths bs cs rs
  all_lines = go (leb (length nos) (most_lines + 1)) refl
    where
      go : (b : Bool) → leb (length nos) (most_lines + 1) ≡ b → counted (running_of 0 0) (min (length nos) (most_lines + 1)) nos coords paths bs cs rs ≡ counted
          (running_of 0 0) (length nos) nos coords paths bs cs rs
      go true q =
          let h = leb-true (length nos) (most_lines + 1) q in
          let e : min (length nos) (most_lines + 1) ≡ length nos = omega arith in
          rw e
      go false q =
          let h = leb-false (length nos) (most_lines + 1) q in
          let e : min (length nos) (most_lines + 1) ≡ most_lines + 1 = omega arith in
          let l : most_lines < most_lines + 1 = omega arith in
          let k : most_lines + 1 ≤ length nos = omega arith in
          let k₂ : most_lines < length nos = omega arith in
          let z : most_lines ≤ most_lines = omega arith in
          rw e (up_to (most_lines + 1) k (past nos coords paths (length rs / ref_words) most_lines z (most_lines + 1) (length nos) l k₂ (st_of bs cs rs 0)))
