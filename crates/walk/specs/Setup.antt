-- The walk's numbers, line by line as path_count.rs has them, a stage each, for the functions' own contracts. Only proofs lean on this, but for
-- `ends_of`, which the skip rules cite: what is promised is `Page.antt`, in one piece and beside the Rust, and `by_parts` there says that the stages
-- make the same. Definitions only.
use Rattle.std.specs.Prelude.{◌+◌, ◌-◌, cond, Float}
use Rattle.std.specs.Float.{binary32}
use Rattle.std.specs.Float.Ieee.{add, sub, mul, div, le, eq, ne}
use Rattle.float32.specs.Meaning.{floor_of, ceil_of, min_of, abs_of, copysign_of}
use Rattle.util.specs.Constants.{zero, one, minus_one, tile_scale, one_minus_ulp, robust_epsilon}
use Rattle.util.specs.Vec.{scale_of}
use Rattle.util.specs.Span.{span_of}
use Rattle.util.specs.declared.Vec2.{Vec2}
use Rattle.exact.specs.Reach.{Near}
use Rattle.walk.specs.Num.{float}
use Rattle.walk.specs.declared.kinds.Ends.{Ends}
use Rattle.walk.specs.declared.kinds.Counts.{Counts}
use Rattle.walk.specs.declared.kinds.Slope.{Slope}
use Rattle.walk.specs.declared.kinds.Walk.{Walk}

-- a point in tiles whose coordinates were checked
pub record Scaled (s : Vec2) : Type 0 where
  pub in_x : Near s.x
  pub in_y : Near s.y

-- the ends in the order of y, and scaled to tiles
unfoldable pub ends_of : Vec2 → Vec2 → Ends
ends_of p0 p1 =
    let is_down_lem = le p0.y p1.y in
    let xy0 = cond is_down_lem p0 p1 in
    let xy1 = cond is_down_lem p1 p0 in
    record { is_down = is_down_lem; xy0 = xy0; xy1 = xy1; s0 = scale_of xy0 tile_scale; s1 = scale_of xy1 tile_scale }

-- count_x and count
unfoldable pub counts_of : Vec2 → Vec2 → Counts
counts_of s0 s1 =
    let count_x_lem = span_of s0.x s1.x - 1 in
    record { count_x = count_x_lem; count = count_x_lem + span_of s0.y s1.y }

-- dx to x0, but for a and b
unfoldable pub slope_of : Vec2 → Vec2 → Slope
slope_of s0 s1 =
    let dx = abs_of (sub binary32 s1.x s0.x) in
    let dy = sub binary32 s1.y s0.y in
    let is_pos = le s0.x s1.x in
    let sign = cond is_pos one minus_one in
    let xt0 = floor_of (mul binary32 s0.x sign) in
    let y0 = floor_of s0.y in
    record {
      dx = dx;
      dy = dy;
      idxdy = div binary32 one (add binary32 dx dy);
      is_positive_slope = is_pos;
      sign = sign;
      c = sub binary32 (mul binary32 s0.x sign) xt0;
      y0 = y0;
      ytop = cond (eq s0.y s1.y) (ceil_of s0.y) (add binary32 y0 one);
      x0 = add binary32 (mul binary32 xt0 sign) (cond is_pos zero minus_one);
    }

-- b
unfoldable pub b_of : Slope → Vec2 → Float
b_of m s0 =
    min_of
    (mul binary32
    (add binary32 (mul binary32 m.dy m.c) (mul binary32 m.dx (sub binary32 m.ytop s0.y)))
    m.idxdy)
    one_minus_ulp

-- a, moved by 2e-7 against the sign of the error
unfoldable pub a_of : Slope → Counts → Float → Float
a_of m k b =
    let a = mul binary32 m.dx m.idxdy in
    let err =
    sub binary32
    (floor_of (add binary32 (mul binary32 a (sub binary32 (float k.count) one)) b))
    (float k.count_x) in
    cond (ne err zero) (sub binary32 a (copysign_of robust_epsilon err)) a

-- the walk from its ordered ends
unfoldable pub walk_on : Ends → Walk
walk_on e =
    let k = counts_of e.s0 e.s1 in
    let m = slope_of e.s0 e.s1 in
    let b = b_of m e.s0 in
    record {
      e = e;
      k = k;
      is_positive_slope = m.is_positive_slope;
      pace = record { a = a_of m k b; b = b; x0 = m.x0; y0 = m.y0; sign = m.sign; on_top = eq m.y0 e.s0.y };
    }
