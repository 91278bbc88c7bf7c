-- The three arms of `step_row`, over the pixels from a up to b: `add_row` and `add_own_row` branch so. Assumes nothing.
use mathlib.Core.Path.{◌≡◌, ◌∙◌}
use mathlib.Core.Bool.{true, false}
use mathlib.Core.List.{List}
use Prim.Native.Nat.{ℕ}
use lib.Ieee.{Float, nan, ne}
use Rattle.util.specs.Constants.{zero}
use Rattle.lists.specs.Grid.{mapi, within}
use Rattle.lists.specs.GridLaws.{within_cong}
use Rattle.ranges.proofs.Turn.{kept}
use Rattle.one_row.specs.Row.{reach_of, slanted, edged, step_row}
use Rattle.one_row.specs.declared.Way.{Way}
use Rattle.one_row.specs.declared.Row.{Row}
use Rattle.one_row.specs.declared.Reach.{Reach}

module _ (w : Way) (r : Row) (a b : ℕ) where
  pub slant : (p : Reach) (l m : List Float) → ne r.dy zero ≡ true → p ≡ reach_of w r → m ≡ mapi (within a b (slanted p r.edge r.dy)) l → m ≡ mapi (within a b (step_row w r)) l
  unfolding step_row
  slant p l m t q h = h ∙ within_cong (slanted p r.edge r.dy) (step_row w r) a b nan l (λ k x lo hi. arm k x)
    where
      arm : (k : ℕ) (x : Float) → slanted p r.edge r.dy k x ≡ step_row w r k x
      arm k x = rw (t, q)

  pub edge : (l m : List Float) → ne r.dy zero ≡ false → ne r.edge zero ≡ true → m ≡ mapi (within a b (edged r.edge)) l → m ≡ mapi (within a b (step_row w r)) l
  unfolding step_row
  edge l m t u h = h ∙ within_cong (edged r.edge) (step_row w r) a b nan l (λ k x lo hi. arm k x)
    where
      arm : (k : ℕ) (x : Float) → edged r.edge k x ≡ step_row w r k x
      arm k x = rw (t, u)

  pub neither : (l : List Float) → ne r.dy zero ≡ false → ne r.edge zero ≡ false → l ≡ mapi (within a b (step_row w r)) l
  unfolding step_row
  neither l t u = kept (step_row w r) nan a b l (λ k x lo hi. arm k x)
    where
      arm : (k : ℕ) (x : Float) → x ≡ step_row w r k x
      arm k x = rw (t, u)
