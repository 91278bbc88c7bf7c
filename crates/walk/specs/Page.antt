-- The walk's numbers on one page, in the order of path_count.rs, lines 22 to 52. `by_parts` says that the stages of `Setup.antt` make the same.
use Rattle.std.specs.Prelude.{◌+◌, ◌-◌, ◌≡◌, refl, cond}
use Rattle.std.specs.Float.{binary32}
use Rattle.std.specs.Float.Ieee.{add, sub, mul, div, le, eq, ne}
use Rattle.float32.specs.Meaning.{floor_of, ceil_of, min_of, abs_of, copysign_of}
use Rattle.util.specs.Constants.{zero, one, minus_one, tile_scale, one_minus_ulp, robust_epsilon}
use Rattle.util.specs.Vec.{scale_of}
use Rattle.util.specs.Span.{span_of}
use Rattle.util.specs.declared.Vec2.{Vec2}
use Rattle.walk.specs.Num.{float}
use Rattle.walk.specs.Setup.{ends_of, counts_of, slope_of, a_of, b_of, walk_on}
use Rattle.walk.specs.declared.kinds.Walk.{Walk}

unfoldable pub line_of : Vec2 → Vec2 → Walk
line_of p0 p1 =
    let is_down_lem = le p0.y p1.y in
    let xy0 = cond is_down_lem p0 p1 in
    let xy1 = cond is_down_lem p1 p0 in
    let s0 = scale_of xy0 tile_scale in
    let s1 = scale_of xy1 tile_scale in
    let count_x_lem = span_of s0.x s1.x - 1 in
    let count = count_x_lem + span_of s0.y s1.y in
    let dx = abs_of (sub binary32 s1.x s0.x) in
    let dy = sub binary32 s1.y s0.y in
    let idxdy = div binary32 one (add binary32 dx dy) in
    let a0 = mul binary32 dx idxdy in
    let is_pos = le s0.x s1.x in
    let sign = cond is_pos one minus_one in
    let xt0 = floor_of (mul binary32 s0.x sign) in
    let c = sub binary32 (mul binary32 s0.x sign) xt0 in
    let y0 = floor_of s0.y in
    let ytop = cond (eq s0.y s1.y) (ceil_of s0.y) (add binary32 y0 one) in
    let b = min_of (mul binary32 (add binary32 (mul binary32 dy c) (mul binary32 dx (sub binary32 ytop s0.y))) idxdy) one_minus_ulp in
    let err =
    sub binary32 (floor_of (add binary32 (mul binary32 a0 (sub binary32 (float count) one)) b)) (float count_x_lem) in
    let a = cond (ne err zero) (sub binary32 a0 (copysign_of robust_epsilon err)) a0 in
    let x0 = add binary32 (mul binary32 xt0 sign) (cond is_pos zero minus_one) in
    record {
      e = record { is_down = is_down_lem; xy0 = xy0; xy1 = xy1; s0 = s0; s1 = s1 };
      k = record { count_x = count_x_lem; count = count };
      is_positive_slope = is_pos;
      pace = record { a = a; b = b; x0 = x0; y0 = y0; sign = sign; on_top = eq y0 s0.y };
    }

pub by_parts : (p0 p1 : Vec2) → walk_on (ends_of p0 p1) ≡ line_of p0 p1
unfolding walk_on ends_of counts_of slope_of a_of b_of line_of
by_parts p0 p1 = refl
