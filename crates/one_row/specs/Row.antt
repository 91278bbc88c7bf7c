-- What a segment does to one pixel: fine.rs, lines 59 to 93, operation by operation, each rounded once. Definitions only.
use Rattle.std.specs.Prelude.{cond, ℕ, ◌/◌, ◌%◌, pos, Float}
use Rattle.std.specs.Float.{binary32}
use Rattle.std.specs.Float.Ieee.{of_int, add, sub, mul, div, ne}
use Rattle.float32.specs.Meaning.{min_of, max_of, clamp_of, signum_of}
use Rattle.util.specs.Constants.{zero, half, one, epsilon}
use Rattle.sides.specs.Tile.{tile_width}
use Rattle.panel.specs.declared.segments.Segment.{Segment}
use Rattle.one_row.specs.declared.Way.{Way}
use Rattle.one_row.specs.declared.Row.{Row}
use Rattle.one_row.specs.declared.Reach.{Reach}

-- what is the same in every row: delta, its signum, 1 / delta[1], startx
unfoldable pub way_of : Segment → Float → Way
way_of s x_tile =
    let dx = sub binary32 s.p1.x s.p0.x in
    let dy = sub binary32 s.p1.y s.p0.y in
    record { x = sub binary32 s.p0.x x_tile; y = s.p0.y; dx = dx; dy = dy; recip = div binary32 one dy; sign = signum_of dx; edge = s.y_edge }

-- the row yi: y, y0, y1, dy and y_edge
unfoldable pub row_of : Way → Float → ℕ → Row
row_of w y_tile yi =
    let top = add binary32 y_tile (of_int binary32 (pos yi)) in
    let y = sub binary32 w.y top in
    let y0 = clamp_of y zero one in
    let y1 = clamp_of (add binary32 y w.dy) zero one in
    let edge = mul binary32 w.sign (clamp_of (add binary32 (sub binary32 top w.edge) one) zero one) in
    record { y = y; y0 = y0; y1 = y1; dy = sub binary32 y0 y1; edge = edge }

-- xmin0 and xmax0, by t0 and t1
unfoldable pub reach_of : Way → Row → Reach
reach_of w r =
    let t0 = mul binary32 (sub binary32 r.y0 r.y) w.recip in
    let t1 = mul binary32 (sub binary32 r.y1 r.y) w.recip in
    let x0 = add binary32 w.x (mul binary32 t0 w.dx) in
    let x1 = add binary32 w.x (mul binary32 t1 w.dx) in
    record { left = min_of x0 x1; right = max_of x0 x1 }

-- y_edge + a * dy at column i
unfoldable pub added_of : Reach → Float → Float → ℕ → Float
added_of p edge dy i =
    let i_f = of_int binary32 (pos i) in
    let xmin = sub binary32 (min_of (sub binary32 p.left i_f) one) epsilon in
    let xmax = sub binary32 p.right i_f in
    let b = min_of xmax one in
    let c = max_of b zero in
    let d = max_of xmin zero in
    let a = div binary32 (sub binary32 (add binary32 b (mul binary32 half (sub binary32 (mul binary32 d d) (mul binary32 c c)))) xmin) (sub binary32 xmax xmin) in
    add binary32 edge (mul binary32 a dy)

-- the area a of pixel k where the segment goes through its row, and where only y_edge counts
unfoldable pub slanted : Reach → Float → Float → ℕ → Float → Float
slanted p edge dy k a = add binary32 a (added_of p edge dy (k % tile_width))

unfoldable pub edged : Float → ℕ → Float → Float
edged edge k a = add binary32 a edge

-- the area a of pixel k, in the row r, after the segment
unfoldable pub step_row : Way → Row → ℕ → Float → Float
step_row w r k a = cond (ne r.dy zero) (slanted (reach_of w r) r.edge r.dy k a) (cond (ne r.edge zero) (edged r.edge k a) a)

-- the area a of pixel k, 16 to a row, after the segment that goes the way w
unfoldable pub step_way : Way → Float → ℕ → Float → Float
step_way w y_tile k a = step_row w (row_of w y_tile (k / tile_width)) k a

-- the area a of pixel k after the segment s, for a tile with its corner at x-tile, y-tile
unfoldable pub step_segment : Segment → Float → Float → ℕ → Float → Float
step_segment s x_tile y_tile k a = step_way (way_of s x_tile) y_tile k a
