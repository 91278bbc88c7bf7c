-- The steps of a line over its path's box: each accepted step's tile in whole numbers, in its own path's range; no tile twice. Assumes nothing.
--     step_told          what a step's tile tells
--     tile_in_lem, mark_in   its number, and the number right of it, are its path's
--     step_exact         its column and row in whole numbers
--     step_once          two steps with one column and row are one step
--     tile_once          and so are two with one tile number
--     mark_right         a tile right of a step is in no row the first
--     steps_agree        counting's step is tiling's
use mathlib.Core.Path.{◌≡◌, refl, sym, ap, ap₂, ◌∙◌, subst}
use mathlib.Core.Bool.{Bool, true, false, cond, ◌&&◌}
use mathlib.Core.Logic.{◌⊎◌, inl, inr, ◌≢◌}
use Prim.Native.Nat.{ℕ, ◌+◌, ◌-◌, ◌*◌, ◌≤◌, ◌<◌}
use native.Mathlib.Omega.{arith}
use lib.Dec.{T}
use lib.IntN.{ℤ, pos, ◌+ℤ◌, ◌-ℤ◌}
use lib.Ieee.{Float}
use lib.Ieee.Scale.{finite}
use Rattle.panel.specs.Widths.{step_range}
use Rattle.panel.specs.Kinds.{tile_no_of}
use Rattle.panel.specs.Paths.{width_of, height_of, end_of, tile_of}
use Rattle.panel.specs.declared.kinds.Path.{Path}
use Rattle.panel.specs.declared.kinds.TileNo.{TileNo}
use Rattle.panel.proofs.PathLaws.{cell_in, cell_once, tile_once as number_once}
use Rattle.exact.specs.Whole.{turn}
use Rattle.exact.specs.Reach.{Starts}
use Rattle.walk.specs.Num.{float, cut_of, inside_of}
use Rattle.walk.specs.Step.{Boxed, Within, z_at, tile_in, step_of, step_again_of}
use Rattle.walk.specs.declared.kinds.Pace.{Pace}
use Rattle.walk.specs.Stepped.{Step}
use Rattle.walk.specs.Stepped.{Tile, Refused}
use Rattle.walk.proofs.Boxes.{Told, ok_of, ok_told, told_within, inside_bounds, in_box_lem, tile_below}
use Rattle.walk.proofs.StepTiles.{col_of, col_again, row_at, inside_small, z_fits, z_whole, z_whole_lem, col_is, row_is, col_same, col_again_lem, steps_apart}

-- ---- what a tile tells
pub record TileTold (b : Path) (u v : ℤ) (f : Float) (t : TileNo) (x y : ℕ) (z : Float) : Type 0 where
  pub told : Told b u v f
  pub is_col : u ≡ pos x
  pub is_row : v ≡ pos y
  pub is_z : f ≡ z
  pub is_tile : t ≡ tile_no_of (tile_of b x y)
  pub within : Within b x y

no_tile : (t : TileNo) (x y : ℕ) (z : Float) → Refused ≡ Tile t x y z → ⊥
no_tile t x y z e = let n : ◌≡◌ {A = ℕ} 0 1 = cc in omega arith

pub tile_told : (b : Path) (u v : ℤ) (f : Float) (t : TileNo) (x y : ℕ) (z : Float) → tile_in b u v f ≡ Tile t x y z → TileTold b u v f t x y z
unfolding tile_in
tile_told b u v f t x y z e = go (ok_of b u v f) refl e
  where
    go : (ok : Bool) → ok_of b u v f ≡ ok → cond ok (Tile (tile_no_of (tile_of b (cut_of u) (cut_of v))) (cut_of u) (cut_of v) f) Refused ≡ Tile t x y z → TileTold b u v f t x y z
    go false h e = absurd (no_tile t x y z e)
    go true h e =
        let d = ok_told b u v f h in
        let p : ◌≡◌ {A = TileNo × ℕ × ℕ × Float} (tile_no_of (tile_of b (cut_of u) (cut_of v)), cut_of u, cut_of v, f) (t, x, y, z) = cc in
        let c = ap (λ (q : TileNo × ℕ × ℕ × Float). q.1) p in
        let r = ap (λ (q : TileNo × ℕ × ℕ × Float). q.2) p in
        record {
          told = d;
          is_col = (inside_bounds u b.x0 b.x1 d.col_in).0 ∙ ap pos c;
          is_row = (inside_bounds v b.y0 b.y1 d.row_in_lem).0 ∙ ap pos r;
          is_z = ap (λ (q : TileNo × ℕ × ℕ × Float). q.3) p;
          is_tile = sym (ap (λ (q : TileNo × ℕ × ℕ × Float). q.0) p) ∙ ap₂ (λ (k l : ℕ). tile_no_of (tile_of b k l)) c r;
          within = rw (c, r) at (told_within b u v f d);
        }

-- ---- of a step
module _ (p : Pace) (b : Path) (i : ℕ) (t : TileNo) (x y : ℕ) (z : Float) (e : step_of p b i ≡ Tile t x y z) where
  pub step_told : TileTold b (col_of p.x0 p.sign (z_at p.a p.b (float i))) (row_at p.y0 i (z_at p.a p.b (float i))) (z_at p.a p.b (float i)) t x y z
  unfolding step_of
  step_told =
      let f = z_at p.a p.b (float i) in
      tile_told b (col_of p.x0 p.sign f) (row_at p.y0 i f) f t x y z e

  -- the tile's number
  pub number_is : t.0 ≡ tile_of b x y
  number_is = ap (λ (n : TileNo). n.0) step_told.is_tile

  -- it lies in its own path's range
  pub tile_in_lem : (b.first ≤ t.0) × (t.0 < end_of b)
  tile_in_lem = let r = tile_below b x y step_told.within in (omega (arith, number_is, r.0), omega (arith, number_is, r.1))

  -- and so does the next, where it is in the box
  pub mark_in : x + 1 < b.x1 → t.0 + 1 < end_of b
  mark_in h =
      let w = step_told.within in
      let c = cell_in (width_of b) (height_of b) (y - b.y0) (x + 1 - b.x0) (omega (arith, w.row_least, w.row_most)) (omega (arith, w.col_least)) in
      omega (arith, number_is, c, w.col_least)

  -- which is in no row the first
  pub mark_right : (r : ℕ) → x + 1 < b.x1 → t.0 + 1 ≢ b.first + r * width_of b
  mark_right r h d =
      let w = step_told.within in
      let g = cell_once (width_of b) (y - b.y0) (x - b.x0 + 1) r 0 (omega (arith, w.col_least)) (omega (arith, w.col_least)) (omega (arith, number_is)) in
      omega (arith, g.1)

-- ---- steps of a line that starts as a checked one does
module _ (p : Pace) (l : Starts p.sign p.x0 p.y0) (b : Path) (k : Boxed b) where
  -- column and row in whole numbers
  pub step_exact : (i : ℕ) → i < step_range → (t : TileNo) (x y : ℕ) (z : Float) → step_of p b i ≡ Tile t x y z
      → (pos x ≡ l.x0n +ℤ turn l.turned (z_whole p.a p.b (float i))) × (pos y ≡ l.y0n +ℤ pos i -ℤ z_whole p.a p.b (float i))
  step_exact i h t x y z e =
      let f = z_at p.a p.b (float i) in
      let n = z_whole p.a p.b (float i) in
      let c = step_told p b i t x y z e in
      let w = z_whole_lem p.a p.b (float i) c.told.z_finite in (
        sym c.is_col ∙ col_is p.sign p.x0 p.y0 l f n (z_fits p.a p.b (float i)) w (inside_small (col_of p.x0 p.sign f) b.x0 b.x1 k.wide c.told.col_in),
        sym c.is_row ∙ row_is p.sign p.x0 p.y0 l f n (z_fits p.a p.b (float i)) w i h (inside_small (row_at p.y0 i f) b.y0 b.y1 k.high c.told.row_in_lem),
      )

  pub step_once : (i j : ℕ) → i < step_range → j < step_range → (t u : TileNo) (x y : ℕ) (z w : Float) → step_of p b i ≡ Tile t x y z → step_of p b j ≡ Tile u x y w → i ≡ j
  step_once i j hi hj t u x y z w e g =
      let f = z_at p.a p.b (float i) in
      let f' = z_at p.a p.b (float j) in
      let c = step_told p b i t x y z e in
      let d = step_told p b j u x y w g in
      steps_apart p.sign p.x0 p.y0 l f f' (z_whole p.a p.b (float i)) (z_whole p.a p.b (float j))
      (z_fits p.a p.b (float i))
      (z_whole_lem p.a p.b (float i) c.told.z_finite)
      (z_fits p.a p.b (float j))
      (z_whole_lem p.a p.b (float j) d.told.z_finite)
      i
      j
      hi
      hj
      (inside_small (col_of p.x0 p.sign f) b.x0 b.x1 k.wide c.told.col_in)
      (inside_small (row_at p.y0 i f) b.y0 b.y1 k.high c.told.row_in_lem)
      (c.is_col ∙ sym d.is_col)
      (c.is_row ∙ sym d.is_row)

  -- by the tile's number
  pub tile_once : (i j : ℕ) → i < step_range → j < step_range → (t u : TileNo) (x y x' y' : ℕ) (z w : Float)
      → step_of p b i ≡ Tile t x y z → step_of p b j ≡ Tile u x' y' w → t.0 ≡ u.0 → i ≡ j
  tile_once i j hi hj t u x y x' y' z w e g s =
      let c = step_told p b i t x y z e in
      let d = step_told p b j u x' y' w g in
      let q =
      number_once b x y x' y' (in_box_lem b x y c.within) (in_box_lem b x' y' d.within)
      (sym (number_is p b i t x y z e) ∙ s ∙ number_is p b j u x' y' w g) in
      step_once i j hi hj t u x' y' z w (e ∙ ap (λ (m : ℕ). Tile t m y z) q.0 ∙ ap (λ (m : ℕ). Tile t x' m z) q.1) g

  -- counting's step is tiling's, at every step number: those outside the box are refused in both
  pub steps_agree : (i : ℕ) → step_of p b i ≡ step_again_of p b i
  unfolding step_of step_again_of tile_in
  steps_agree i = go (finite (z_at p.a p.b (float i))) refl
    where
      f : Float
      f = z_at p.a p.b (float i)

      u : ℤ
      u = col_of p.x0 p.sign (z_at p.a p.b (float i))

      u' : ℤ
      u' = col_again p.x0 p.sign (z_at p.a p.b (float i))

      v : ℤ
      v = row_at p.y0 i (z_at p.a p.b (float i))

      same : T (finite f) → (s : Bool) → inside_of u b.x0 b.x1 ≡ s → (s' : Bool) → inside_of u' b.x0 b.x1 ≡ s'
          → (u ≡ u') ⊎ ((inside_of u b.x0 b.x1 ≡ false) × (inside_of u' b.x0 b.x1 ≡ false))
      same h true a s' c = inl (col_same p.sign p.x0 p.y0 l f (z_whole p.a p.b (float i)) (z_fits p.a p.b (float i))
          (z_whole_lem p.a p.b (float i) h) (inside_small u b.x0 b.x1 k.wide a))
      same h false a true c = inl (col_again_lem p.sign p.x0 p.y0 l f (z_whole p.a p.b (float i)) (z_fits p.a p.b (float i))
          (z_whole_lem p.a p.b (float i) h) (inside_small u' b.x0 b.x1 k.wide c))
      same h false a false c = inr (a, c)

      on : ℤ → Step
      on c = Tile (tile_no_of (tile_of b (cut_of c) (cut_of v))) (cut_of c) (cut_of v) f

      both : (u ≡ u') ⊎ ((inside_of u b.x0 b.x1 ≡ false) × (inside_of u' b.x0 b.x1 ≡ false))
          → cond (inside_of u b.x0 b.x1 && inside_of v b.y0 b.y1) (on u) Refused ≡ cond (inside_of u' b.x0 b.x1 && inside_of v b.y0 b.y1) (on u') Refused
      both (inl q) = ap (λ (c : ℤ). cond (inside_of c b.x0 b.x1 && inside_of v b.y0 b.y1) (on c) Refused) q
      both (inr q) =
          ap (λ (s : Bool). cond (s && inside_of v b.y0 b.y1) (on u) Refused) q.0
          ∙ sym (ap (λ (s : Bool). cond (s && inside_of v b.y0 b.y1) (on u') Refused) q.1)

      go : (h : Bool) → finite (z_at p.a p.b (float i)) ≡ h
          → cond (h && (inside_of u b.x0 b.x1 && inside_of v b.y0 b.y1)) (on u) Refused ≡ cond (h && (inside_of u' b.x0 b.x1 && inside_of v b.y0 b.y1)) (on u') Refused
      go false e = refl
      go true e = both (same (subst T (sym e) tt) (inside_of u b.x0 b.x1) refl (inside_of u' b.x0 b.x1) refl)
