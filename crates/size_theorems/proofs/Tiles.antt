-- The tiles that `sizes` tells suffice for the paths, and no fewer do. docs/THEOREMS.md, "Sizes". Assumes nothing.
use mathlib.Core.Path.{◌≡◌, refl, subst}
use mathlib.Core.Logic.{inl, inr}
use mathlib.Core.Bool.{Bool, true, false, cond}
use mathlib.Core.List.{List}
use Prim.Native.Nat.{ℕ, zero, suc, ◌-◌, ◌≤◌, ◌<◌}
use native.Mathlib.Decide.{dec_lt}
use native.Mathlib.Omega.{arith}
use lib.Dec.{eqb}
use borrow.Author.Tests.{eqb-true, eqb-false}
use Rattle.panel.specs.Limits.{most_tiles}
use Rattle.panel.specs.Paths.{path_at, path_count, end_of, paths_answer}
use Rattle.panel.specs.Answer.{Answer, Done, Refused}
use Rattle.panel.proofs.PathLaws.{Checked, checked}
use Rattle.theorems.specs.Refusing.{end_before, PathsWhy, one, two, three, four}
use Rattle.theorems.proofs.ExactPaths.{paths_exact}
use Rattle.sizes.specs.Words.{tiles_of}

module _ (ws : List ℕ) where
  -- the last path's end is the largest
  last_most : (tiles : ℕ) → Checked ws tiles → (k : ℕ) → k < path_count ws → end_of (path_at ws k) ≤ tiles_of ws
  unfolding tiles_of
  last_most tiles c k h = go (eqb (path_count ws) 0) refl (dec_lt k (path_count ws - 1))
    where
      go : (b : Bool) → eqb (path_count ws) 0 ≡ b → Dec (k < path_count ws - 1) → end_of (path_at ws k) ≤ cond b 0 (end_of (path_at ws (path_count ws - 1)))
      go true e d = absurd (omega (arith, eqb-true (path_count ws) 0 e))
      go false e (yes d) = omega (arith, c.apart k (path_count ws - 1) d (omega arith))
      go false e (no d) =
          let z : k ≡ path_count ws - 1 = omega arith in
          subst (λ (j : ℕ). end_of (path_at ws k) ≤ end_of (path_at ws j)) z (omega arith)

  -- Where the paths are good at all, any number of tiles from the one told up to the limit suffices
  pub tiles_enough : paths_answer ws most_tiles ≡ Done → (tiles : ℕ) → tiles_of ws ≤ tiles → tiles ≤ most_tiles → paths_answer ws tiles ≡ Done
  tiles_enough e tiles h k = go (paths_answer ws tiles) refl
    where
      c : Checked ws most_tiles
      c = checked ws most_tiles e

      after : (j : ℕ) → j < path_count ws → end_before ws j ≤ (path_at ws j).first
      after zero l = omega arith
      after (suc j) l = c.apart j (suc j) (omega arith) l

      no_why : (n j : ℕ) → PathsWhy ws tiles n j → ⊥
      no_why n j (one q a b) = b (omega (arith, c.whole))
      no_why n j (two q a b (inl d)) = omega (arith, c.few)
      no_why n j (two q a b (inr d)) = omega arith
      no_why n j (three q a b d g) =
          let f = c.fits j b in
          g (record { across = f.across; right = f.right; down = f.down; bottom = f.bottom })
      no_why n j (four q a b d g (inl f)) = omega (arith, after j b)
      no_why n j (four q a b d g (inr f)) = omega (arith, last_most most_tiles c j b)

      go : (a : Answer) → paths_answer ws tiles ≡ a → a ≡ Done
      go Done f = refl
      go (Refused n j) f = absurd (no_why n j ((paths_exact ws tiles n j).0 f))

  -- and no fewer
  pub tiles_needed : (tiles : ℕ) → paths_answer ws tiles ≡ Done → tiles_of ws ≤ tiles
  unfolding tiles_of
  tiles_needed tiles e = go (eqb (path_count ws) 0) refl
    where
      go : (b : Bool) → eqb (path_count ws) 0 ≡ b → cond b 0 (end_of (path_at ws (path_count ws - 1))) ≤ tiles
      go true f = omega arith
      go false f = ((checked ws tiles e).fits (path_count ws - 1) (omega (arith, eqb-false (path_count ws) 0 f))).within
