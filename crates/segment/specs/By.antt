-- A step's piece of its line by what is at hand: the z's of the step and its neighbours, and its tile's corner from the floats that column and row
-- are cast from. Only proofs lean on this: what is promised is specs/Clips.antt, and proofs/By.antt says that both come to the same. Definitions only.
use Rattle.std.specs.Prelude.{ℕ, ◌-◌, cond, ◌&&◌, ltb, Float}
use Rattle.std.specs.Float.{binary32}
use Rattle.std.specs.Float.Ieee.{add, sub, mul, eq}
use Rattle.util.specs.Constants.{zero, tile_side}
use Rattle.util.specs.Vec.{new_of, sub_of}
use Rattle.util.specs.declared.Vec2.{Vec2}
use Rattle.walk.specs.Num.{float}
use Rattle.carry.specs.declared.Zs.{Zs}
use Rattle.walk.specs.declared.kinds.Pace.{Pace}
use Rattle.walk.specs.declared.kinds.Walk.{Walk}
use Rattle.panel.specs.Segments.{held_of}
use Rattle.panel.specs.declared.segments.Segment.{Segment}
use Rattle.segment.specs.Clips.{far_of, clip_of, edge_of, turn_of}
use Rattle.segment.specs.Piece.{Piece, Kept, Crooked}

-- the corner of step i's tile, whose z is z
unfoldable pub corner_at : Pace → ℕ → Float → Vec2
corner_at p i z =
    new_of
    (mul binary32 (add binary32 (add binary32 p.x0 (mul binary32 p.sign z)) zero) tile_side)
    (mul binary32 (add binary32 (sub binary32 (add binary32 p.y0 (float i)) z) zero) tile_side)

-- the first end and the last in the tile at t; p is the first end, clipped
unfoldable pub first_by : Walk → Zs → Vec2 → Vec2
first_by w s t =
    cond (ltb 0 s.at)
    (clip_of (eq s.z s.before) w.e.xy0 w.e.xy1 t.y (cond w.is_positive_slope t.x (far_of t).x) t)
    w.e.xy0

unfoldable pub last_by : Walk → Zs → Vec2 → Vec2 → Vec2
last_by w s t p =
    cond (ltb s.at (w.k.count - 1))
    (clip_of (eq s.z s.after) p w.e.xy1 (far_of t).y (cond w.is_positive_slope (far_of t).x t.x) t)
    w.e.xy1

-- the segment in the tile at t
unfoldable pub segment_by : Walk → Zs → Vec2 → Segment
segment_by w s t =
    let q0 = first_by w s t in
    let q1 = last_by w s t q0 in
    let p0 = sub_of q0 t in
    let p1 = sub_of q1 t in
    turn_of w.e.is_down (edge_of p0.x p0.y p1.x p1.y)

-- the segment, or none (12)
unfoldable pub piece_by : Walk → Zs → Vec2 → Piece
piece_by w s t =
    let r = segment_by w s t in
    cond (held_of r.p0 && held_of r.p1) (Kept r) Crooked
