-- What a line that is taken did: its acts ran, all of them on its own path's tiles. Assumes nothing.
use mathlib.Core.Path.{◌≡◌, refl, ap, ◌∙◌}
use mathlib.Core.List.{List, [], ◌∷◌}
use Prim.Native.Nat.{ℕ, suc, ◌+◌, ◌*◌}
use native.Mathlib.Omega.{arith}
use lib.Dec.{ltb}
use lib.ListN.{length, get_or}
use lib.Seq.{sets}
use lib.IntN.{ℤ, pos, ◌+ℤ◌}
use lib.Ieee.{Float}
use Rattle.lists.specs.Run.{done}
use Rattle.lists.specs.Tally.{tally, slices}
use Rattle.lists.specs.Order as Order
use Rattle.panel.specs.Limits.{most_count}
use Rattle.panel.specs.Refusals.{count_over, sum_over}
use Rattle.panel.specs.Widths.{ref_words}
use Rattle.walk.specs.Lent.{walk_at}
use Rattle.panel.specs.Signed.{in_i32}
use Rattle.acts.specs.Acts.{St, Act, mark, visit, stop, marked, visited, run_acts}
use Rattle.acts.proofs.Whole.{on_taken, no_stop}
use Rattle.theorems.specs.Drawn.{drawn_at, walk_of, tiles_in, marks_in}
use Rattle.theorems.specs.Events.{events_in, words_ev}

pub walk_is : (nos : List ℕ) (coords : List Float) (paths : List ℕ) (l : ℕ) → walk_at nos coords paths l ≡ walk_of paths (drawn_at nos coords l)
unfolding walk_at walk_of
walk_is nos coords paths l = refl

-- ---- a run of acts that goes through

module _ (δ : ℤ) (l : ℕ) where
  -- what it leaves: counts by its visits, backdrops by its marks, references one after another
  pub record Ran-through (xs : List Act) (s u : St) : Type 0 where
    pub made : u.made ≡ s.made + length (events_in l xs)
    pub counts : u.counts ≡ tally s.counts (tiles_in xs)
    pub backs : u.backs ≡ Order.mark (marks_in δ xs) s.backs
    pub refs : u.refs ≡ sets s.refs (ref_words * s.made) (words_ev (events_in l xs) (slices s.counts (tiles_in xs)))

  pub ran_through : (xs : List Act) (s u : St) → run_acts δ l xs s ≡ done u → Ran-through xs s u
  unfolding run_acts
  ran_through [] s u e =
      let q : u ≡ s = cc in
      record { made = omega (arith, ap (λ (t : St). t.made) q); counts = ap (λ (t : St). t.counts) q; backs = ap (λ (t : St). t.backs) q; refs = ap (λ (t : St). t.refs) q }
  ran_through (mark t ∷ xs) s u e =
      let r = ran_through xs (marked δ t s) u (on_taken (in_i32 (get_or s.backs t (pos 0) +ℤ δ)) s (marked δ t s) sum_over (run_acts δ l xs) u e) in
      record { made = r.made; counts = r.counts; backs = r.backs; refs = r.refs }
  ran_through (visit t i ∷ xs) s u e =
      let r = ran_through xs (visited l t i s) u (on_taken (ltb (get_or s.counts t 0) most_count) s (visited l t i s) count_over (run_acts δ l xs) u e) in
      let a : ref_words * (s.made + 1) ≡ suc (suc (ref_words * s.made)) = omega arith in
      let b : ref_words * s.made + 1 ≡ suc (ref_words * s.made) = omega arith in
      record { made = omega (arith, r.made); counts = r.counts; backs = r.backs; refs = r.refs ∙ rw (a, b) }
  ran_through (stop n ∷ xs) s u e = absurd (no_stop s u n e)
