-- Tiles in a box, and their numbers. Assumes nothing.
--     tile_below       a tile's number lies in its path's range
--     inside_bounds    what the tests of a tile tell
--     tile-within      so a tile that a step gives lies in the box
use Prim.Native.Nat.{ℕ, ◌≤◌, ◌<◌}
use native.Mathlib.Omega.{arith}
use mathlib.Core.Path.{◌≡◌, refl, sym, subst}
use mathlib.Core.Bool.{Bool, true, false, ◌&&◌, false≢true}
use lib.Dec.{T, leb, ltb}
use lib.IntN.{ℤ, pos, negsuc}
use lib.Ieee.{Float}
use lib.Ieee.Scale.{finite}
use borrow.Author.Tests.{leb-true, ltb-true}
use Rattle.panel.specs.Kinds.{tile_no_of}
use Rattle.panel.specs.Paths.{end_of, tile_of}
use Rattle.panel.specs.declared.kinds.Path.{Path}
use Rattle.panel.specs.Limits.{most_tiles}
use Rattle.panel.proofs.PathLaws.{Fits, InBox, own_tile}
use Rattle.walk.specs.Num.{cut_of, inside_of}
use Rattle.walk.specs.Step.{Boxed, Within, tile_in}
use Rattle.walk.specs.Stepped.{Tile, Refused}
use Rattle.panel.proofs.BoolLaws.{both}

-- ---- numbers of tiles
pub in_box_lem : (b : Path) (x y : ℕ) → Within b x y → InBox b x y
in_box_lem b x y h = record { left = h.col_least; right = h.col_most; top = h.row_least; bottom = h.row_most }

-- a path that passed its checks
pub fits_boxed : (b : Path) (tiles : ℕ) → tiles ≤ most_tiles → Fits b tiles → Boxed b
fits_boxed b tiles h f = record { left = f.across; top = f.down; wide = f.right; high = f.bottom; last = omega (arith, f.within) }

-- a tile's number lies in its path's range
pub tile_below : (b : Path) (x y : ℕ) → Within b x y → (b.first ≤ tile_of b x y) × (tile_of b x y < end_of b)
tile_below b x y h = own_tile b x y (in_box_lem b x y h)

-- ---- what the tests of a tile tell
pub inside_bounds : (v : ℤ) (lo hi : ℕ) → inside_of v lo hi ≡ true → (v ≡ pos (cut_of v)) × (lo ≤ cut_of v) × (cut_of v < hi)
unfolding inside_of cut_of
inside_bounds (pos n) lo hi h = let p = both (leb lo n) (ltb n hi) h in (refl, leb-true lo n p.0, ltb-true n hi p.1)
inside_bounds (negsuc n) lo hi h = absurd (false≢true h)

-- the test that `tile_in` makes
abbrev pub ok_of : Path → (x y : ℤ) → (z : Float) → Bool
ok_of b x y z = finite z && (inside_of x b.x0 b.x1 && inside_of y b.y0 b.y1)

pub record Told (b : Path) (x y : ℤ) (z : Float) : Type 0 where
  pub z_finite : T (finite z)
  pub col_in : inside_of x b.x0 b.x1 ≡ true
  pub row_in_lem : inside_of y b.y0 b.y1 ≡ true

pub ok_told : (b : Path) (x y : ℤ) (z : Float) → ok_of b x y z ≡ true → Told b x y z
ok_told b x y z e =
    let p = both (finite z) (inside_of x b.x0 b.x1 && inside_of y b.y0 b.y1) e in
    let q = both (inside_of x b.x0 b.x1) (inside_of y b.y0 b.y1) p.1 in
    record { z_finite = subst T (sym p.0) tt; col_in = q.0; row_in_lem = q.1 }

pub told_within : (b : Path) (x y : ℤ) (z : Float) → Told b x y z → Within b (cut_of x) (cut_of y)
told_within b x y z t =
    let p = inside_bounds x b.x0 b.x1 t.col_in in
    let q = inside_bounds y b.y0 b.y1 t.row_in_lem in
    record { col_least = p.1; col_most = p.2; row_least = q.1; row_most = q.2 }

pub tile_yes : (b : Path) (x y : ℤ) (z : Float) → ok_of b x y z ≡ true → Tile (tile_no_of (tile_of b (cut_of x) (cut_of y))) (cut_of x) (cut_of y) z ≡ tile_in b x y z
unfolding tile_in
tile_yes b x y z e = rw e

pub tile_no : (b : Path) (x y : ℤ) (z : Float) → ok_of b x y z ≡ false → Refused ≡ tile_in b x y z
unfolding tile_in
tile_no b x y z e = rw e
