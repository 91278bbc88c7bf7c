-- A step's column and row as floats: the sums that they are cast from, with 0 added. Assumes nothing.
--     step_floats    so the column and the row of a step's tile
use mathlib.Core.Path.{◌≡◌, sym, ◌∙◌, subst}
use Prim.Native.Nat.{ℕ, ◌<◌}
use native.Mathlib.Omega.{arith}
use lib.IntN.{ℤ, pos, ◌+ℤ◌}
use lib.Ieee.{Float, binary32, add, mul}
use Rattle.util.specs.Constants.{zero}
use Rattle.panel.specs.Widths.{step_range}
use Rattle.panel.specs.declared.kinds.Path.{Path}
use Rattle.panel.specs.declared.kinds.TileNo.{TileNo}
use Rattle.exact.specs.Whole.{IsWhole, turn}
use Rattle.exact.specs.Reach.{Starts}
use Rattle.exact.proofs.Signs.{abs_sum}
use Rattle.exact.proofs.Exact.{nat_whole, add_whole, add_cast, sub_cast}
use Rattle.exact.proofs.Limits.{far}
use Rattle.walk.specs.Num.{float}
use Rattle.walk.specs.Step.{Boxed, z_at, step_of}
use Rattle.walk.specs.declared.kinds.Pace.{Pace}
use Rattle.walk.specs.Stepped.{Tile}
use Rattle.walk.proofs.StepTiles.{inside_small, z_fits, z_whole, z_whole_lem, turned_whole}
use Rattle.walk.proofs.Tiles.{step_told}
use Rattle.box_edges.proofs.Zeros.{zero_more}
use Rattle.box_edges.proofs.Sides.{x_at, y_at}

-- ---- of a step of a line that starts as a checked one does
module _ (p : Pace) (l : Starts p.sign p.x0 p.y0) (b : Path) (k : Boxed b) (i : ℕ) (h : i < step_range) (t : TileNo) (x y : ℕ) (z : Float)
    (e : step_of p b i ≡ Tile t x y z) where
  abbrev f : Float
  f = z_at p.a p.b (float i)

  abbrev n : ℤ
  n = z_whole p.a p.b (float i)

  f_whole : IsWhole f n
  f_whole = z_whole_lem p.a p.b (float i) (step_told p b i t x y z e).told.z_finite

  col_whole : IsWhole (x_at p f) (pos x)
  col_whole =
      let c = step_told p b i t x y z e in
      let g = add_cast p.x0 (mul binary32 p.sign f) l.x0n (turn l.turned n) l.x0_whole
      (turned_whole p.sign p.x0 p.y0 l f n (z_fits p.a p.b (float i)) f_whole)
      (inside_small _ b.x0 b.x1 k.wide c.told.col_in) in
      subst (λ (m : ℤ). IsWhole (x_at p f) m) (sym g.2 ∙ c.is_col) g.1

  row_whole : IsWhole (y_at p i f) (pos y)
  row_whole =
      let c = step_told p b i t x y z e in
      let v = add_whole p.y0 (float i) l.y0n (pos i) l.y0_whole (nat_whole i (omega (arith, far.steps)))
      (omega (arith, abs_sum l.y0n (pos i), l.y0_small, far.tiles, far.steps)) in
      let g = sub_cast (add binary32 p.y0 (float i)) f (l.y0n +ℤ pos i) n v f_whole (inside_small _ b.y0 b.y1 k.high c.told.row_in_lem) in
      subst (λ (m : ℤ). IsWhole (y_at p i f) m) (sym g.2 ∙ c.is_row) g.1

  pub step_floats : (add binary32 (x_at p f) zero ≡ float x) × (add binary32 (y_at p i f) zero ≡ float y)
  step_floats = (zero_more (x_at p f) x col_whole, zero_more (y_at p i f) y row_whole)
