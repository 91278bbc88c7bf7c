-- The two ends of a step's piece of its line, clipped to its tile, by parts: path_tiling.rs from `tile_xy` to the asserts. specs/Page.antt has them
-- on one page, in the file's order. Definitions only.
use Rattle.std.specs.Prelude.{ℕ, ◌-◌, Bool, cond, ◌&&◌, ltb, Float}
use Rattle.std.specs.Float.{binary32}
use Rattle.std.specs.Float.Ieee.{add, sub, mul, div, eq, ne}
use Rattle.float32.specs.Meaning.{floor_of, clamp_of}
use Rattle.util.specs.Constants.{zero, one, two, tile_side, nudge, epsilon, no_edge}
use Rattle.util.specs.Vec.{new_of, add_of, sub_of}
use Rattle.util.specs.declared.Vec2.{Vec2}
use Rattle.walk.specs.Num.{float}
use Rattle.walk.specs.Step.{z_at}
use Rattle.walk.specs.declared.kinds.Walk.{Walk}
use Rattle.panel.specs.Segments.{held_of}
use Rattle.panel.specs.declared.segments.Segment.{Segment}
use Rattle.segment.specs.Piece.{Piece, Kept, Crooked}

-- The tile's upper left corner, and its lower right one.
unfoldable pub corner_of : ℕ → ℕ → Vec2
corner_of x y = new_of (mul binary32 (float x) tile_side) (mul binary32 (float y) tile_side)

unfoldable pub far_of : Vec2 → Vec2
far_of t = add_of t (new_of tile_side tile_side)

-- Where the line from p to q is at the height y: x is held to the tile, 0.001 off its left edge.
unfoldable pub at_row_of : Vec2 → Vec2 → Float → Vec2 → Vec2
at_row_of p q y t =
    let xt =
    add binary32 p.x
    (div binary32 (mul binary32 (sub binary32 q.x p.x) (sub binary32 y p.y)) (sub binary32 q.y p.y)) in
    new_of (clamp_of xt (add binary32 t.x nudge) (far_of t).x) y

-- Where it is at the column x: y is held to the tile, 0.001 off its top edge.
unfoldable pub at_col_of : Vec2 → Vec2 → Float → Vec2 → Vec2
at_col_of p q x t =
    let yt =
    add binary32 p.y
    (div binary32 (mul binary32 (sub binary32 q.y p.y) (sub binary32 x p.x)) (sub binary32 q.x p.x)) in
    new_of x (clamp_of yt (add binary32 t.y nudge) (far_of t).y)

-- The one where the neighbour step is in the same column, and the other where it isn't.
unfoldable pub clip_of : Bool → Vec2 → Vec2 → Float → Float → Vec2 → Vec2
clip_of same p q y x t = cond same (at_row_of p q y t) (at_col_of p q x t)

unfoldable pub make_of : Float → Float → Float → Float → Float → Segment
make_of x0 y0 x1 y1 edge = record { p0 = new_of x0 y0; p1 = new_of x1 y1; y_edge = edge }

-- Ends on the tile's left edge.
unfoldable pub edge_of : Float → Float → Float → Float → Segment
edge_of x0 y0 x1 y1 =
    cond (eq x0 zero)
    (cond (eq x1 zero)
    (cond (eq y0 zero) (make_of epsilon y0 epsilon tile_side no_edge) (make_of epsilon y0 (mul binary32 two epsilon) y0 no_edge))
    (cond (eq y0 zero) (make_of epsilon y0 x1 y1 no_edge) (make_of x0 y0 x1 y1 y0)))
    (cond (eq x1 zero)
    (cond (eq y1 zero) (make_of x0 y0 epsilon y1 no_edge) (make_of x0 y0 x1 y1 y1))
    (make_of x0 y0 x1 y1 no_edge))

-- A whole x that is not 0 moves left by 1e-6.
unfoldable pub off_of : Vec2 → Vec2
off_of p = new_of (cond (eq p.x (floor_of p.x) && ne p.x zero) (sub binary32 p.x epsilon) p.x) p.y

-- Both ends moved, and in the line's own direction again.
unfoldable pub turn_of : Bool → Segment → Segment
turn_of is_down s =
    record {
      p0 = cond is_down (off_of s.p0) (off_of s.p1);
      p1 = cond is_down (off_of s.p1) (off_of s.p0);
      y_edge = s.y_edge;
    }

-- The first end: as it is at step 0, and else where the walk comes into the tile: from above if the step before is in the same column, and else
-- from the side. z is that of step i.
unfoldable pub first_of : Walk → ℕ → Float → Vec2 → Vec2
first_of w i z t =
    cond (ltb 0 i)
    (clip_of (eq z (z_at w.pace.a w.pace.b (sub binary32 (float i) one))) w.e.xy0 w.e.xy1 t.y
    (cond w.is_positive_slope t.x (far_of t).x)
    t)
    w.e.xy0

-- The last end: as it is at the last step, and else where the walk goes out. p is the first end, clipped.
unfoldable pub last_of : Walk → ℕ → Float → Vec2 → Vec2 → Vec2
last_of w i z t p =
    cond (ltb i (w.k.count - 1))
    (clip_of (eq z (z_at w.pace.a w.pace.b (add binary32 (float i) one))) p w.e.xy1 (far_of t).y
    (cond w.is_positive_slope (far_of t).x t.x)
    t)
    w.e.xy1

-- The segment of step i in the tile (x, y), relative to the tile.
unfoldable pub segment_of : Walk → ℕ → Float → ℕ → ℕ → Segment
segment_of w i z x y =
    let t = corner_of x y in
    let q0 = first_of w i z t in
    let q1 = last_of w i z t q0 in
    let p0 = sub_of q0 t in
    let p1 = sub_of q1 t in
    turn_of w.e.is_down (edge_of p0.x p0.y p1.x p1.y)

-- The segment, or none (12).
unfoldable pub piece_of : Walk → ℕ → Float → ℕ → ℕ → Piece
piece_of w i z x y =
    let s = segment_of w i z x y in
    cond (held_of s.p0 && held_of s.p1) (Kept s) Crooked
