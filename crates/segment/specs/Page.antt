-- A step's segment on one page, in the order of path_tiling.rs from `tile_xy` on; the same as `segment_of` of specs/Clips.antt, which goes by parts
-- (`by_parts` of proofs/Page.antt). Of an `if` without `else`, both values stand and the test picks one. Definition only.
use Rattle.std.specs.Prelude.{ℕ, ◌-◌, cond, ◌&&◌, ltb, Float}
use Rattle.std.specs.Float.{binary32}
use Rattle.std.specs.Float.Ieee.{add, sub, mul, div, eq, ne}
use Rattle.float32.specs.Meaning.{floor_of, clamp_of}
use Rattle.util.specs.Constants.{zero, one, two, tile_side, nudge, epsilon, no_edge}
use Rattle.util.specs.Vec.{new_of, add_of, sub_of}
use Rattle.util.specs.declared.Vec2.{Vec2}
use Rattle.walk.specs.Num.{float}
use Rattle.walk.specs.declared.kinds.Walk.{Walk}
use Rattle.panel.specs.declared.segments.Segment.{Segment}

unfoldable pub page_of : Walk → ℕ → Float → ℕ → ℕ → Segment
page_of w i z x y =
    let a = w.pace.a in
    let b = w.pace.b in
    let is_pos = w.is_positive_slope in
    let xy0 = w.e.xy0 in
    let xy1 = w.e.xy1 in
    let tile_xy = new_of (mul binary32 (float x) tile_side) (mul binary32 (float y) tile_side) in
    let tile_xy1 = add_of tile_xy (new_of tile_side tile_side) in
    -- if seg_within_line > 0
    let z_prev = floor_of (add binary32 (mul binary32 a (sub binary32 (float i) one)) b) in
    -- top edge is clipped
    let xt =
    add binary32 xy0.x
    (div binary32 (mul binary32 (sub binary32 xy1.x xy0.x) (sub binary32 tile_xy.y xy0.y)) (sub binary32 xy1.y xy0.y)) in
    let top = new_of (clamp_of xt (add binary32 tile_xy.x nudge) tile_xy1.x) tile_xy.y in
    -- if is_positive_slope, left edge is clipped, otherwise right
    let x_clip = cond is_pos tile_xy.x tile_xy1.x in
    let yt =
    add binary32 xy0.y
    (div binary32 (mul binary32 (sub binary32 xy1.y xy0.y) (sub binary32 x_clip xy0.x)) (sub binary32 xy1.x xy0.x)) in
    let side = new_of x_clip (clamp_of yt (add binary32 tile_xy.y nudge) tile_xy1.y) in
    let q0 = cond (ltb 0 i) (cond (eq z z_prev) top side) xy0 in
    -- if seg_within_line < count - 1; xy0 is q0 by now
    let z_next = floor_of (add binary32 (mul binary32 a (add binary32 (float i) one)) b) in
    -- bottom edge is clipped
    let xt1 =
    add binary32 q0.x
    (div binary32 (mul binary32 (sub binary32 xy1.x q0.x) (sub binary32 tile_xy1.y q0.y)) (sub binary32 xy1.y q0.y)) in
    let bottom = new_of (clamp_of xt1 (add binary32 tile_xy.x nudge) tile_xy1.x) tile_xy1.y in
    -- if is_positive_slope, right edge is clipped, otherwise left
    let x_clip1 = cond is_pos tile_xy1.x tile_xy.x in
    let yt1 =
    add binary32 q0.y
    (div binary32 (mul binary32 (sub binary32 xy1.y q0.y) (sub binary32 x_clip1 q0.x)) (sub binary32 xy1.x q0.x)) in
    let side1 = new_of x_clip1 (clamp_of yt1 (add binary32 tile_xy.y nudge) tile_xy1.y) in
    let q1 = cond (ltb i (w.k.count - 1)) (cond (eq z z_next) bottom side1) xy1 in
    -- apply numerical robustness logic
    let p0 = sub_of q0 tile_xy in
    let p1 = sub_of q1 tile_xy in
    let made : Float → Float → Float → Float → Float → Segment =
    λ x0 y0 x1 y1 y_edge_lem. record { p0 = new_of x0 y0; p1 = new_of x1 y1; y_edge = y_edge_lem } in
    let s : Segment =
    cond (eq p0.x zero)
    (cond (eq p1.x zero)
    (cond (eq p0.y zero)
    -- entire tile
    (made epsilon p0.y epsilon tile_side no_edge)
    -- make segment disappear
    (made epsilon p0.y (mul binary32 two epsilon) p0.y no_edge))
    (cond (eq p0.y zero) (made epsilon p0.y p1.x p1.y no_edge) (made p0.x p0.y p1.x p1.y p0.y)))
    (cond (eq p1.x zero)
    (cond (eq p1.y zero) (made p0.x p0.y epsilon p1.y no_edge) (made p0.x p0.y p1.x p1.y p1.y))
    (made p0.x p0.y p1.x p1.y no_edge)) in
    let off : Vec2 → Vec2 =
    λ p. new_of (cond (eq p.x (floor_of p.x) && ne p.x zero) (sub binary32 p.x epsilon) p.x) p.y in
    let r0 = off s.p0 in
    let r1 = off s.p1 in
    -- if !is_down
    let is_down = w.e.is_down in
    record { p0 = cond is_down r0 r1; p1 = cond is_down r1 r0; y_edge = s.y_edge }
