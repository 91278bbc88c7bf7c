-- A line over a box that reaches a tile further than the tiles of its ends on every side, is never refused with 10: every step has its tile in the box. Assumes nothing.
--     margin_tile    every step below the line's count
use mathlib.Core.Path.{◌≡◌, refl, sym, ap, ◌∙◌, subst}
use mathlib.Core.Bool.{Bool, true, false, not, cond, ◌&&◌}
use Prim.Native.Nat.{ℕ, ◌+◌, ◌-◌, ◌*◌, ◌/◌, ◌^◌, ◌≤◌, ◌<◌}
use native.Mathlib.Omega.{arith}
use lib.Dec.{T, lit<}
use lib.IntN.{ℤ, pos, negsuc, neg_ℤ, ◌+ℤ◌, ◌-ℤ◌, nat_abs}
use lib.Ieee.{Float, nan, inf, fin, binary32, up, down, add, sub, mul, le, lt, eq, to_unsigned}
use lib.Ieee.Bits.{is_true}
use lib.Ieee.Fits.{down_pos, add-fits}
use lib.Ieee.Exact.{HasValue}
use lib.Ieee.Nearest.{div_same}
use lib.Ieee.Scale.{finite}
use borrow.Author.Tests.{le-leb, lt-ltb}
use mathlib.Core.Bool.{true≢false, false≢true}
use Rattle.float32.specs.Meaning.{up_div, floor_of, unit}
use Rattle.float32.proofs.Laws.{whole_finite, floor_whole}
use Rattle.util.specs.Constants.{tile_scale}
use Rattle.util.specs.Vec.{scale_of}
use Rattle.util.specs.declared.Vec2.{Vec2}
use Rattle.util.specs.Span.{span_of}
use Rattle.panel.specs.Limits.{edge_most}
use Rattle.panel.specs.Kinds.{tile_no_of}
use Rattle.panel.specs.Paths.{tile_of}
use Rattle.panel.specs.declared.kinds.Path.{Path}
use Rattle.panel.proofs.BoolLaws.{both}
use Rattle.panel.proofs.LimitLaws.{small}
use Rattle.exact.specs.Whole.{IsWhole, floor_z, turn}
use Rattle.exact.specs.Reach.{in_reach, Starts, scaled, sign_at, x0_at}
use Rattle.exact.proofs.Bounds.{x0_z, line_at_lem}
use Rattle.exact.proofs.Exact.{nat_whole, add_whole, sub_whole, whole_cast}
use Rattle.exact.proofs.Signs.{abs_sum, plus_of, minus_of, one_part, abs_parts, neg_plus, neg_minus, sum_parts}
use Rattle.walk.specs.Num.{float, cut_of, inside_of}
use Rattle.walk.specs.Setup.{Scaled, ends_of, counts_of, slope_of, a_of, b_of, walk_on}
use Rattle.walk.specs.Page.{line_of, by_parts}
use Rattle.walk.specs.Skip.{flat_of}
use Rattle.walk.specs.Lent.{Reached}
use Rattle.walk.specs.Step.{Boxed, z_at, step_of}
use Rattle.walk.specs.declared.kinds.Pace.{Pace}
use Rattle.walk.specs.declared.kinds.Walk.{Walk}
use Rattle.walk.proofs.Counts.{ends_scaled, counts_few}
use Rattle.walk.proofs.AroundLaws.{ends_ordered}
use Rattle.walk.proofs.Boxes.{tile_yes}
use Rattle.walk.proofs.StepTiles.{col_of, row_at, z_fits, z_whole, z_whole_lem, turned_whole}
use Rattle.margin.specs.Room.{tile_at, Inside, HasTile}
use Rattle.margin.proofs.Ends.{Grid, grid_of, times_unit, up_same_value}
use Rattle.margin.proofs.Rises.{Kept}
use Rattle.margin.proofs.Lines.{tiles_few, rising, falling, cols_rising, cols_falling, rows_are, line_kept}

-- ---- a point's tile, in whole numbers of 2 ^ -23
pub cast-at : (x : Float) (n : ℕ) → HasValue x false n 8388608 → n ≤ 4096 * 8388608 → to_unsigned 32 x ≡ n / 8388608
unfolding to_unsigned
cast-at nan n v b = absurd v
cast-at (inf s) n v b = absurd v
cast-at (fin true m e) n v b = absurd (true≢false v.0)
cast-at (fin false m e) n v b = omega (arith, div_same (m * up e) (down e) n 8388608 (down_pos e) (lit< tt) v.1)

pub record Roomy (b : Path) (s : Vec2) : Type 0 where
  pub gx : Grid s.x
  pub gy : Grid s.y
  pub left : b.x0 + 1 ≤ gx.S / 8388608
  pub right : gx.S / 8388608 + 2 ≤ b.x1
  pub top : b.y0 + 1 ≤ gy.S / 8388608
  pub bottom : gy.S / 8388608 + 2 ≤ b.y1

roomy_of : (b : Path) (p : Vec2) → (in_reach p.x && in_reach p.y) ≡ true → Inside b p → Roomy b (scale_of p tile_scale)
roomy_of b p h k =
    let r = both (in_reach p.x) (in_reach p.y) h in
    let gx = grid_of p.x r.0 (omega (arith, k.left)) in
    let gy = grid_of p.y r.1 (omega (arith, k.top)) in
    let ex : tile_at p.x ≡ gx.S / 8388608 = cast-at (scaled p.x) gx.S gx.is (omega (arith, gx.most, tiles_few)) in
    let ey : tile_at p.y ≡ gy.S / 8388608 = cast-at (scaled p.y) gy.S gy.is (omega (arith, gy.most, tiles_few)) in
    record { gx = gx; gy = gy; left = omega (arith, k.left); right = omega (arith, k.right); top = omega (arith, k.top); bottom = omega (arith, k.bottom) }

pub ends_roomy : (b : Path) (p0 p1 : Vec2) → Reached p0 p1 → Inside b p0 → Inside b p1 → Roomy b (ends_of p0 p1).s0 × Roomy b (ends_of p0 p1).s1
unfolding ends_of
ends_roomy b p0 p1 h k l =
    let r = both (in_reach p0.x && in_reach p0.y) (in_reach p1.x && in_reach p1.y) h in
    go (le p0.y p1.y) (roomy_of b p0 r.0 k) (roomy_of b p1 r.1 l)
  where
    go : (d : Bool) → Roomy b (scale_of p0 tile_scale) → Roomy b (scale_of p1 tile_scale) → Roomy b (scale_of (cond d p0 p1) tile_scale) × Roomy b (scale_of (cond d p1 p0) tile_scale)
    go true f g = (f, g)
    go false f g = (g, f)

-- ---- floors as integers
floor_plus : (v : Float) (n : ℕ) → HasValue v false n 8388608 → floor_z v ≡ pos (n / 8388608)
unfolding floor_z
floor_plus nan n h = absurd h
floor_plus (inf s) n h = absurd h
floor_plus (fin true m e) n h = absurd (true≢false h.0)
floor_plus (fin false m e) n h = ap pos (div_same (m * up e) (down e) n 8388608 (down_pos e) (lit< tt) h.1)

floor_minus : (v : Float) (n : ℕ) → HasValue v true n 8388608 → floor_z v ≡ neg_ℤ (pos (up_div n 8388608))
unfolding floor_z
floor_minus nan n h = absurd h
floor_minus (inf s) n h = absurd h
floor_minus (fin false m e) n h = absurd (false≢true h.0)
floor_minus (fin true m e) n h = ap (λ (k : ℕ). neg_ℤ (pos k)) (up_same_value (m * up e) (down e) n 8388608 (down_pos e) (lit< tt) h.1)

inside_yes : (v : ℤ) (lo hi : ℕ) → minus_of v ≡ 0 → lo ≤ plus_of v → plus_of v < hi → inside_of v lo hi ≡ true
unfolding inside_of
inside_yes (pos n) lo hi e l h = rw (le-leb lo n l, lt-ltb n hi h)
inside_yes (negsuc n) lo hi e l h = absurd (omega arith)

-- ---- an integer that lies from lo up to hi
abbrev In : ℤ → ℕ → ℕ → Type 0
In v lo hi = (minus_of v ≡ 0) × (lo ≤ plus_of v) × (plus_of v < hi)

rise_col : (F n : ℤ) (q cx u1 q1 lo hi : ℕ) → F ≡ pos q → minus_of n ≤ 1 → plus_of n ≤ cx + 1 → cx ≡ u1 - q - 1 → lo + 1 ≤ q → q + 2 ≤ hi → u1 ≤ q1 + 1 → q1 + 2 ≤ hi → In (F +ℤ pos 0 +ℤ n) lo hi
rise_col F n q cx u1 q1 lo hi e a b c d f g h =
    let s = sum_parts (F +ℤ pos 0) n in
    let t = sum_parts F (pos 0) in
    let o = one_part (F +ℤ pos 0 +ℤ n) in
    let w = one_part (F +ℤ pos 0) in
    let x = ap plus_of e in
    let y = ap minus_of e in
    (omega arith, omega arith, omega arith)

fall_col : (F n : ℤ) (u q0 cx q1 lo hi : ℕ) → F ≡ neg_ℤ (pos u) → minus_of n ≤ 1 → plus_of n ≤ cx + 1 → cx ≡ u - q1 - 1 → q1 + 1 ≤ u → lo + 1 ≤ q1 → u ≤ q0 + 1 → q0 + 2 ≤ hi
    → In (neg_ℤ F +ℤ negsuc 0 +ℤ neg_ℤ n) lo hi
fall_col F n u q0 cx q1 lo hi e a b c d f g h =
    let s = sum_parts (neg_ℤ F +ℤ negsuc 0) (neg_ℤ n) in
    let t = sum_parts (neg_ℤ F) (negsuc 0) in
    let o = one_part (neg_ℤ F +ℤ negsuc 0 +ℤ neg_ℤ n) in
    let w = one_part (neg_ℤ F +ℤ negsuc 0) in
    let x : plus_of (neg_ℤ F) ≡ u = neg_plus F ∙ ap minus_of e ∙ neg_minus (pos u) in
    let y : minus_of (neg_ℤ F) ≡ 0 = neg_minus F ∙ ap plus_of e ∙ neg_plus (pos u) in
    let p = neg_plus n in
    let m = neg_minus n in
    (omega arith, omega arith, omega arith)

row_at_lem : (F n : ℤ) (i q j u1 q1 lo hi : ℕ) → F ≡ pos q → plus_of n ≤ i + 1 → i + minus_of n ≤ plus_of n + (j + 1) → j ≡ u1 - q - 1 → lo + 1 ≤ q → q + 2 ≤ hi → u1 ≤ q1 + 1 → q1 + 2 ≤ hi
    → In (F +ℤ pos i -ℤ n) lo hi
row_at_lem F n i q j u1 q1 lo hi e a b c d f g h =
    let s = sum_parts (F +ℤ pos i) (neg_ℤ n) in
    let t = sum_parts F (pos i) in
    let o = one_part (F +ℤ pos i -ℤ n) in
    let w = one_part (F +ℤ pos i) in
    let x = ap plus_of e in
    let y = ap minus_of e in
    let p = neg_plus n in
    let m = neg_minus n in
    (omega arith, omega arith, omega arith)

pub up_next : (n : ℕ) → up_div n 8388608 ≤ n / 8388608 + 1
up_next n = omega arith

up_above : (n m : ℕ) → n < m → n / 8388608 + 1 ≤ up_div m 8388608
up_above n m h = omega arith

-- ---- a line over a box with that margin
module _ (b : Path) (k : Boxed b) (s0 s1 : Vec2) (h0 : Scaled s0) (h1 : Scaled s1) (ordered : lt s1.y s0.y ≡ false) (r0 : Roomy b s0) (r1 : Roomy b s1) where
  abbrev rises : Bool
  rises = le s0.x s1.x

  abbrev A0 : ℕ
  A0 = r0.gx.S

  abbrev A1 : ℕ
  A1 = r1.gx.S

  abbrev B0 : ℕ
  B0 = r0.gy.S

  abbrev B1 : ℕ
  B1 = r1.gy.S

  abbrev cx : ℕ
  cx = span_of s0.x s1.x - 1

  abbrev j : ℕ
  j = span_of s0.y s1.y - 1

  col_in : (r : Bool) → rises ≡ r → (n : ℤ) → minus_of n ≤ 1 → plus_of n ≤ cx + 1 → In (x0_z r s0.x +ℤ turn (not r) n) b.x0 b.x1
  col_in true e n lo hi =
      rise_col (floor_z (mul binary32 s0.x (unit false))) n (A0 / 8388608) cx (up_div A1 8388608) (A1 / 8388608) b.x0 b.x1
      (floor_plus (mul binary32 s0.x (unit false)) A0 (times_unit false s0.x A0 8388608 h0.in_x.fit r0.gx.is)) lo hi
      (cols_rising s0 s1 h0 h1 ordered r0.gx r1.gx r0.gy r1.gy (rising s0 s1 h0 h1 ordered r0.gx r1.gx r0.gy r1.gy e)) r0.left r0.right (up_next A1) r1.right
  col_in false e n lo hi =
      let l : A1 < A0 = falling s0 s1 h0 h1 ordered r0.gx r1.gx r0.gy r1.gy e in
      fall_col (floor_z (mul binary32 s0.x (unit true))) n (up_div A0 8388608) (A0 / 8388608) cx (A1 / 8388608) b.x0 b.x1
      (floor_minus (mul binary32 s0.x (unit true)) A0 (times_unit true s0.x A0 8388608 h0.in_x.fit r0.gx.is)) lo hi
      (cols_falling s0 s1 h0 h1 ordered r0.gx r1.gx r0.gy r1.gy (omega arith)) (up_above A1 A0 l) r1.left (up_next A0) r0.right

  row_in_lem : (n : ℤ) (i : ℕ) → plus_of n ≤ i + 1 → i + minus_of n ≤ plus_of n + (j + 1) → In (floor_z s0.y +ℤ pos i -ℤ n) b.y0 b.y1
  row_in_lem n i lo hi =
      row_at_lem (floor_z s0.y) n i (B0 / 8388608) j (up_div B1 8388608) (B1 / 8388608) b.y0 b.y1 (floor_plus s0.y B0 r0.gy.is) lo hi
      (rows_are s0 s1 h0 h1 ordered r0.gx r1.gx r0.gy r1.gy) r0.top r0.bottom (up_next B1) r1.bottom

  -- a step whose z is kept
  abbrev pace_of : (a c : Float) (t : Bool) → Pace
  pace_of a c t = record { a = a; b = c; x0 = x0_at rises s0.x; y0 = floor_of s0.y; sign = sign_at rises; on_top = t }

  l : Starts (sign_at rises) (x0_at rises s0.x) (floor_of s0.y)
  l = line_at_lem rises s0.x s0.y h0.in_x h0.in_y

  tile_at_lem : (a c : Float) (t : Bool) (i : ℕ) → i ≤ 2 ^ 16 → Kept (add binary32 (mul binary32 a (float i)) c) i cx (j + 1) → HasTile (pace_of a c t) b i
  unfolding step_of l
  tile_at_lem a c t i few q =
      let v = add binary32 (mul binary32 a (float i)) c in
      let z = z_at a c (float i) in
      let n = z_whole a c (float i) in
      let x0 = x0_at rises s0.x in
      let y0 = floor_of s0.y in
      let sign = sign_at rises in
      let fz : T (finite z) = unfold z_at in whole_finite (floor_of v) (floor_whole v (add-fits binary32 (mul binary32 a (float i)) c) q.real) in
      let w : IsWhole z n = z_whole_lem a c (float i) fz in
      let tw : IsWhole (mul binary32 sign z) (turn (not rises) n) = turned_whole sign x0 y0 l z n (z_fits a c (float i)) w in
      let S = x0_z rises s0.x +ℤ turn (not rises) n in
      let ci = col_in rises refl n q.least q.cols in
      let cs : nat_abs S ≤ 2 ^ 12 = size S b.x0 b.x1 ci k.wide in
      let cw : IsWhole (add binary32 x0 (mul binary32 sign z)) S = add_whole x0 (mul binary32 sign z) (x0_z rises s0.x) (turn (not rises) n) l.x0_whole tw (omega arith) in
      let ce : col_of x0 sign z ≡ S = whole_cast (add binary32 x0 (mul binary32 sign z)) S cw (omega arith) in
      let yw : IsWhole (add binary32 y0 (float i)) (floor_z s0.y +ℤ pos i) =
      add_whole y0 (float i) (floor_z s0.y) (pos i) l.y0_whole (nat_whole i (omega arith)) (omega (arith, abs_sum (floor_z s0.y) (pos i), l.y0_small, tiles_few)) in
      let R = floor_z s0.y +ℤ pos i -ℤ n in
      let ri = row_in_lem n i q.up q.down in
      let rs : nat_abs R ≤ 2 ^ 12 = size R b.y0 b.y1 ri k.high in
      let rw' : IsWhole (sub binary32 (add binary32 y0 (float i)) z) R = sub_whole (add binary32 y0 (float i)) z (floor_z s0.y +ℤ pos i) n yw w (omega arith) in
      let re : row_at y0 i z ≡ R = whole_cast (sub binary32 (add binary32 y0 (float i)) z) R rw' (omega arith) in
      let ic : inside_of (col_of x0 sign z) b.x0 b.x1 ≡ true = ap (λ (u : ℤ). inside_of u b.x0 b.x1) ce ∙ inside_yes S b.x0 b.x1 ci.0 ci.1 ci.2 in
      let ir : inside_of (row_at y0 i z) b.y0 b.y1 ≡ true = ap (λ (u : ℤ). inside_of u b.y0 b.y1) re ∙ inside_yes R b.y0 b.y1 ri.0 ri.1 ri.2 in
      record {
        t = tile_no_of (tile_of b (cut_of (col_of x0 sign z)) (cut_of (row_at y0 i z)));
        x = cut_of (col_of x0 sign z);
        y = cut_of (row_at y0 i z);
        z = z;
        is = sym (tile_yes b (col_of x0 sign z) (row_at y0 i z) z (all (finite z) (inside_of (col_of x0 sign z) b.x0 b.x1) (inside_of (row_at y0 i z) b.y0 b.y1) (is_true (finite z) fz) ic ir));
      }
    where
      size : (v : ℤ) (lo hi : ℕ) → In v lo hi → hi ≤ edge_most → nat_abs v ≤ 2 ^ 12
      size v lo hi h e = omega (arith, abs_parts v, h.0, h.2, small.edge)

      all : (p q r : Bool) → p ≡ true → q ≡ true → r ≡ true → (p && (q && r)) ≡ true
      all p q r e f g = rw (e, f, g) refl

-- ---- as the walk sets a line up
on_tile_lem : (p0 p1 : Vec2) (b : Path) → Boxed b → Reached p0 p1 → Inside b p0 → Inside b p1 → flat_of (ends_of p0 p1).s0 (ends_of p0 p1).s1 ≡ false
    → (i : ℕ) → i < (walk_on (ends_of p0 p1)).k.count → HasTile (walk_on (ends_of p0 p1)).pace b i
unfolding walk_on slope_of
on_tile_lem p0 p1 b k h d e f i l =
    let s0 = (ends_of p0 p1).s0 in
    let s1 = (ends_of p0 p1).s1 in
    let c = ends_scaled p0 p1 h in
    let o = ends_ordered p0 p1 h in
    let r = ends_roomy b p0 p1 h d e in
    let a = a_of (slope_of s0 s1) (counts_of s0 s1) (b_of (slope_of s0 s1) s0) in
    tile_at_lem b k s0 s1 c.0 c.1 o r.0 r.1 a (b_of (slope_of s0 s1) s0) (eq (floor_of s0.y) s0.y) i (omega (arith, (counts_few s0 s1 c.0 c.1).most, tiles_few))
    (line_kept s0 s1 c.0 c.1 o r.0.gx r.1.gx r.0.gy r.1.gy f i l)

pub margin_tile : (p0 p1 : Vec2) (b : Path) → Boxed b → Reached p0 p1 → Inside b p0 → Inside b p1 → flat_of (ends_of p0 p1).s0 (ends_of p0 p1).s1 ≡ false
    → (i : ℕ) → i < (line_of p0 p1).k.count → HasTile (line_of p0 p1).pace b i
margin_tile p0 p1 b k h d e f = subst (λ (w : Walk). (i : ℕ) → i < w.k.count → HasTile w.pace b i) (by_parts p0 p1) (on_tile_lem p0 p1 b k h d e f)
