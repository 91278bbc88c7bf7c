-- Step numbers stay exact in a float. Assumes nothing.
--     steps_exact   a checked line: fewer than 2 ^ 15 steps, and z, rows and columns of every step whole, below 2 ^ 15 in size and exact
use mathlib.Core.Path.{◌≡◌, refl, sym, ap, subst}
use mathlib.Core.Bool.{true, false}
use Prim.Native.Nat.{ℕ, zero, suc, ◌+◌, ◌^◌, ◌≤◌, ◌<◌}
use native.Mathlib.Omega.{arith}
use lib.Dec.{T}
use lib.IntN.{ℤ, pos, negsuc, ◌+ℤ◌, ◌-ℤ◌, neg_ℤ, nat_abs}
use lib.Signed.{le_z}
use borrow.Author.Tests.{le-leb}
use lib.Ieee.{Float, binary32, add, sub, mul}
use lib.Ieee.Scale.{finite}
use Rattle.util.specs.declared.Vec2.{Vec2}
use Rattle.panel.specs.Widths.{step_range}
use Rattle.panel.specs.declared.kinds.Path.{Path}
use Rattle.panel.specs.declared.kinds.TileNo.{TileNo}
use Rattle.panel.proofs.LimitLaws.{small, packs}
use Rattle.exact.specs.Whole.{IsWhole, turn}
use Rattle.exact.specs.Reach.{Starts, coord_tiles}
use Rattle.exact.proofs.Signs.{plus_of, minus_of, one_part, abs_parts, neg_plus, neg_minus, sum_parts, abs_sum, abs_other, abs_turn}
use Rattle.exact.proofs.Exact.{nat_whole, add_whole, sub_whole}
use Rattle.walk.specs.Num.{float}
use Rattle.walk.specs.Page.{line_of}
use Rattle.walk.specs.Lent.{Reached}
use Rattle.walk.specs.Step.{Boxed, z_at, tile_in, step_of}
use Rattle.walk.specs.declared.kinds.Pace.{Pace}
use Rattle.walk.specs.Stepped.{Tile, Refused}
use Rattle.walk.proofs.Walks.{line_starts, line_few}
use Rattle.walk.proofs.StepTiles.{z_fits, z_whole, z_whole_lem, turned_whole}
use Rattle.walk.proofs.Tiles.{step_told, step_exact}
use Rattle.errors.proofs.ZBounds.{Bounded, line_bounded, z_least, z_most}
use Rattle.theorems.specs.StepNumbers.{ExactAt, ExactTile, FewAt, ExactLine}

-- the coordinate's limit in tiles
tiles_few : coord_tiles ≤ 2 ^ 12
unfolding coord_tiles
tiles_few = omega (arith, small.coord)

-- a reference tells more steps apart than a checked line has
range_wide : 2 ^ 14 ≤ step_range
unfolding step_range
range_wide = omega arith

module _ (p : Pace) (l : Starts p.sign p.x0 p.y0) where
  number_is : (i : ℕ) → i < step_range → IsWhole (float i) (pos i)
  number_is i h = nat_whole i (omega (arith, packs.float))

  sum_is : (i : ℕ) → i < step_range → IsWhole (add binary32 p.y0 (float i)) (l.y0n +ℤ pos i)
  sum_is i h = add_whole p.y0 (float i) l.y0n (pos i) l.y0_whole (number_is i h) (omega (arith, abs_sum l.y0n (pos i), l.y0_small, tiles_few, packs.float))

  at_step : (i : ℕ) → i < step_range → T (finite (z_at p.a p.b (float i))) → ExactAt p l i (z_at p.a p.b (float i))
  at_step i h f =
      let z = z_at p.a p.b (float i) in
      let n = z_whole p.a p.b (float i) in
      let w = z_whole_lem p.a p.b (float i) f in
      let v = turned_whole p.sign p.x0 p.y0 l z n (z_fits p.a p.b (float i)) w in
      record {
        n = n;
        z_is = w;
        col_is = λ q. add_whole p.x0 (mul binary32 p.sign z) l.x0n (turn l.turned n) l.x0_whole v q;
        row_is = λ q. sub_whole (add binary32 p.y0 (float i)) z (l.y0n +ℤ pos i) n (sum_is i h) w q;
      }

  at_tile : (b : Path) → Boxed b → (i : ℕ) → i < step_range → (t : TileNo) (x y : ℕ) (z : Float) → step_of p b i ≡ Tile t x y z → ExactTile p l i x y z
  unfolding at_step
  at_tile b k i h t x y z e =
      let c = step_told p b i t x y z e in
      let s = at_step i h c.told.z_finite in
      let r = step_exact p l b k i h t x y z e in
      let col_size : nat_abs (l.x0n +ℤ turn l.turned s.n) ≡ x = ap nat_abs (sym r.0) in
      let row_size : nat_abs (l.y0n +ℤ pos i -ℤ s.n) ≡ y = ap nat_abs (sym r.1) in
      let x_few : x < 2 ^ 12 = omega (arith, c.within.col_most, k.wide, small.edge) in
      let y_few : y < 2 ^ 12 = omega (arith, c.within.row_most, k.high, small.edge) in
      let f = z_at p.a p.b (float i) in
      let col_f = subst (λ (m : ℤ). IsWhole (add binary32 p.x0 (mul binary32 p.sign f)) m) (sym r.0) (s.col_is (omega (arith, col_size))) in
      let row_f = subst (λ (m : ℤ). IsWhole (sub binary32 (add binary32 p.y0 (float i)) f) m) (sym r.1) (s.row_is (omega (arith, row_size))) in
      record {
        n = s.n;
        z_is = subst (λ (v : Float). IsWhole v s.n) c.is_z s.z_is;
        z_few = omega (arith, abs_other l.x0n (turn l.turned s.n), abs_turn l.turned s.n, col_size, l.x0_small, tiles_few);
        col_few = omega arith;
        row_few = omega arith;
        col = subst (λ (v : Float). IsWhole (add binary32 p.x0 (mul binary32 p.sign v)) (pos x)) c.is_z col_f;
        row = subst (λ (v : Float). IsWhole (sub binary32 (add binary32 p.y0 (float i)) v) (pos y)) c.is_z row_f;
        col_by = r.0;
        row_by = r.1;
      }

-- ---- every step, in the box or out of it
not_less : (n : ℤ) → minus_of n ≤ 1 → le_z (negsuc 0) n ≡ true
not_less (pos n) h = refl
not_less (negsuc zero) h = refl
not_less (negsuc (suc n)) h = absurd (omega arith)

not_more : (n : ℤ) (k : ℕ) → plus_of n ≤ k → le_z n (pos k) ≡ true
not_more (pos n) k h = le-leb n k h
not_more (negsuc n) k h = refl

module _ (p : Pace) (l : Starts p.sign p.x0 p.y0) (w : Bounded p.a p.b) where
  at_any : (i : ℕ) → i < 2 ^ 14 → T (finite (z_at p.a p.b (float i))) → FewAt p l i (z_at p.a p.b (float i))
  unfolding at_step
  at_any i h f =
      let s = at_step p l i (omega (arith, range_wide)) f in
      let n = s.n in
      let m = turn l.turned n in
      let lo : minus_of n ≤ 1 = z_least p.a p.b w i (omega arith) f in
      let hi : plus_of n ≤ i + 2 = z_most p.a p.b w i (omega arith) f in
      let z : nat_abs n < 2 ^ 14 + 2 = omega (arith, abs_parts n, one_part n) in
      let c : nat_abs (l.x0n +ℤ m) < 2 ^ 15 = omega (arith, abs_sum l.x0n m, abs_turn l.turned n, l.x0_small, tiles_few) in
      let y = l.y0n +ℤ pos i in
      let r : nat_abs (y -ℤ n) < 2 ^ 15 =
      omega (arith, abs_parts (y -ℤ n), one_part (y -ℤ n), sum_parts y (neg_ℤ n), neg_plus n, neg_minus n, sum_parts l.y0n (pos i), abs_parts l.y0n, l.y0_small, tiles_few) in
      record {
        n = n;
        z_is = s.z_is;
        z_least = not_less n lo;
        z_most = not_more n (i + 2) hi;
        z_few = omega arith;
        col_few = c;
        row_few = r;
        col = s.col_is (omega arith);
        row = s.row_is (omega arith);
      }

-- where z isn't finite, the step is refused
none_of : (p : Pace) (b : Path) (i : ℕ) → finite (z_at p.a p.b (float i)) ≡ false → step_of p b i ≡ Refused
unfolding step_of tile_in
none_of p b i h = rw h

pub steps_exact : (p0 p1 : Vec2) → Reached p0 p1 → ExactLine (line_of p0 p1)
steps_exact p0 p1 h =
    let l = line_starts p0 p1 h in
    let k = line_few p0 p1 h in
    record {
      starts = l;
      some = k.some;
      count_few = omega (arith, k.most, tiles_few);
      count_is = nat_whole (line_of p0 p1).k.count (omega (arith, k.most, tiles_few));
      x0_few = omega (arith, l.x0_small, tiles_few);
      y0_few = omega (arith, l.y0_small, tiles_few);
      number = number_is (line_of p0 p1).pace l;
      row_sum = sum_is (line_of p0 p1).pace l;
      step = at_step (line_of p0 p1).pace l;
      tile = at_tile (line_of p0 p1).pace l;
      every = λ i c. at_any (line_of p0 p1).pace l (line_bounded p0 p1 h) i (omega (arith, k.most, tiles_few));
      lost = none_of (line_of p0 p1).pace;
    }
