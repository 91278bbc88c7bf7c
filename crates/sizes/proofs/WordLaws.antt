-- The pairs that paths can put on a screen are no more than their tiles. Assumes nothing.
use mathlib.Core.Path.{◌≡◌, refl}
use mathlib.Core.List.{List}
use Prim.Native.Nat.{ℕ, zero, suc, ◌+◌, ◌*◌, ◌≤◌, ◌<◌}
use native.Mathlib.Nat.{mul-le-mul}
use native.Mathlib.Omega.{arith}
use Rattle.panel.specs.Paths.{path_at, path_count, width_of, height_of, end_of}
use Rattle.panel.specs.declared.kinds.Path.{Path}
use Rattle.panel.proofs.PathLaws.{Checked}
use Rattle.sizes.specs.Words.{on_screen, screen_pairs, pairs_to}

-- a path's are no more than its box's tiles
pub pairs_area : (p : Path) (cols rows : ℕ) → screen_pairs p cols rows ≤ width_of p * height_of p
pairs_area p cols rows = mul-le-mul {n₁ = on_screen p.x0 p.x1 cols} {m₁ = on_screen p.y0 p.y1 rows} {n₂ = width_of p} {m₂ = height_of p} (omega arith) (omega arith)

module _ (ws : List ℕ) (cols rows : ℕ) where
  pub pairs_suc : (n : ℕ) → pairs_to ws cols rows (suc n) ≡ pairs_to ws cols rows n + screen_pairs (path_at ws n) cols rows
  unfolding pairs_to
  pairs_suc n = refl

  pub pairs_none : pairs_to ws cols rows 0 ≡ 0
  unfolding pairs_to
  pairs_none = refl

  module _ (tiles : ℕ) (c : Checked ws tiles) where
    -- the paths before path n end at or before its first tile
    upto : (n : ℕ) → n < path_count ws → pairs_to ws cols rows (suc n) ≤ end_of (path_at ws n)
    upto zero h = omega (arith, pairs_suc 0, pairs_none, pairs_area (path_at ws 0) cols rows)
    upto (suc n) h =
        omega (arith, pairs_suc (suc n), pairs_area (path_at ws (suc n)) cols rows, upto n (omega arith), c.apart n (suc n) (omega arith) h)

    pub pairs_most : (n : ℕ) → n ≤ path_count ws → pairs_to ws cols rows n ≤ tiles
    pairs_most zero h = omega (arith, pairs_none)
    pairs_most (suc n) h = omega (arith, upto n (omega arith), (c.fits n (omega arith)).within)
