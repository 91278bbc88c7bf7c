-- What a path puts on a tile, case by case. Assumes nothing.
use mathlib.Core.Path.{◌≡◌}
use mathlib.Core.Bool.{true, false, ◌&&◌}
use mathlib.Core.List.{[], ◌∷◌}
use Prim.Native.Nat.{ℕ, ◌+◌, ◌-◌, ◌*◌, ◌≤◌, ◌<◌}
use native.Mathlib.Omega.{arith}
use borrow.Author.Tests.{lt-ltb, le-ltb, leb-true, ltb-true}
use lib.Dec.{leb, ltb}
use lib.IntN.{ℤ}
use lib.ListN.{length}
use Rattle.panel.specs.Limits.{most_tiles}
use Rattle.panel.specs.Widths.{paint_words}
use Rattle.panel.specs.Paths.{path_at, path_count, width_of, end_of, tile_of}
use Rattle.panel.specs.Slots.{not32}
use Rattle.panel.specs.declared.kinds.Path.{Path}
use Rattle.panel.proofs.PathLaws.{InBox, own_tile, checked}
use Rattle.panel.proofs.BoolLaws.{both}
use Rattle.commands.specs.Pixel.{even_odd_of}
use Rattle.pairs.specs.Pairs.{Tables, in_box, covers, bits_of, on_tile, by_path, on_path}
use Rattle.pairs.specs.Ready.{Ready}
use Rattle.pairs.specs.declared.Pair.TheVariants.{Fill, Solid}

-- ---- on a tile

module _ (colour rule count stored : ℕ) (b : ℤ) where
  pub on_fill : (bits : ℕ) → 0 < count → bits ≡ bits_of b → Fill count rule (not32 stored) bits colour ∷ [] ≡ on_tile colour rule count stored b
  unfolding on_tile
  on_fill bits h e = rw (lt-ltb 0 count h, e)

  pub on_solid : count ≤ 0 → covers (even_odd_of rule) b ≡ true → Solid colour ∷ [] ≡ on_tile colour rule count stored b
  unfolding on_tile
  on_solid h e = rw (le-ltb 0 count h, e)

  pub on_none : count ≤ 0 → covers (even_odd_of rule) b ≡ false → [] ≡ on_tile colour rule count stored b
  unfolding on_tile
  on_none h e = rw (le-ltb 0 count h, e)

-- ---- in the box, and outside

pub box_in : (p : Path) (x y : ℕ) → in_box p x y ≡ true → InBox p x y
box_in p x y e =
    let f = both (leb p.x0 x && ltb x p.x1 && leb p.y0 y) (ltb y p.y1) e in
    let g = both (leb p.x0 x && ltb x p.x1) (leb p.y0 y) f.0 in
    let h = both (leb p.x0 x) (ltb x p.x1) g.0 in
    record {
      left = leb-true p.x0 x h.0;
      right = ltb-true x p.x1 h.1;
      top = leb-true p.y0 y g.1;
      bottom = ltb-true y p.y1 f.1;
    }

module _ (s : Tables) (x y p : ℕ) where
  pub path_outside : in_box (path_at s.paths p) x y ≡ false → [] ≡ on_path s x y p
  unfolding on_path
  path_outside e = rw e

  pub path_inside : in_box (path_at s.paths p) x y ≡ true → by_path s p (tile_of (path_at s.paths p) x y) ≡ on_path s x y p
  unfolding on_path
  path_inside e = rw e

-- ---- the tile's number stays small, part by part

pub record Parts (p : Path) (x y : ℕ) : Type 0 where
  pub left : p.x0 ≤ x
  pub top : p.y0 ≤ y
  pub across : p.x0 ≤ p.x1
  pub rows : (y - p.y0) * width_of p < most_tiles
  pub row : p.first + (y - p.y0) * width_of p < most_tiles
  pub tile : tile_of p x y < most_tiles

pub tile_parts : (p : Path) (x y : ℕ) → in_box p x y ≡ true → end_of p ≤ most_tiles → Parts p x y
tile_parts p x y e h =
    let b = box_in p x y e in
    let t = own_tile p x y b in
    record { left = b.left; top = b.top; across = omega arith; rows = omega arith; row = omega arith; tile = omega arith }

-- a path that is there has its paint, and its tiles are among those lent
module _ (s : Tables) (r : Ready s) (p : ℕ) (h : p < path_count s.paths) where
  pub paint_there : p * paint_words + paint_words ≤ length s.paints
  paint_there = omega (arith, r.paints)

  pub tiles_few : end_of (path_at s.paths p) ≤ most_tiles
  tiles_few = let c = checked s.paths (length s.backdrops) r.passed in omega (arith, (c.fits p h).within, c.tiled)

  pub tile_there : (x y : ℕ) → in_box (path_at s.paths p) x y ≡ true → tile_of (path_at s.paths p) x y < length s.backdrops
  tile_there x y e =
      let c = checked s.paths (length s.backdrops) r.passed in
      omega (arith, (own_tile (path_at s.paths p) x y (box_in (path_at s.paths p) x y e)).1, (c.fits p h).within)
