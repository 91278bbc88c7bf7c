-- A pixel of fill_path on one page, in the order of fine.rs, lines 51 to 108; the same as `pixel_of` of specs/Coverage.antt, which goes by parts
-- (`by_parts` of proofs/Page.antt). Pixel k of the tile is in row k / 16 and column k % 16: the loops over rows and columns are gone, and what they
-- compute for other pixels too. Of an `if` both values stand and the test picks one. Definitions only.
use Rattle.std.specs.Prelude.{Bool, cond, List, ℕ, zero, suc, ◌+◌, ◌/◌, ◌%◌, ℤ, pos, Float}
use Rattle.std.specs.Float.{binary32}
use Rattle.std.specs.Float.Ieee.{of_int, add, sub, mul, div, ne}
use Rattle.float32.specs.Meaning.{min_of, max_of, clamp_of, signum_of, abs_of, round_of}
use Rattle.util.specs.Constants as Number
use Rattle.panel.specs.Segments.{segment_at}
use Rattle.panel.specs.declared.segments.Segment.{Segment}
use Rattle.sides.specs.Tile.{tile_width}

-- one segment: the pixel's area after it
unfoldable pub segment_page : Segment → (x_tile y_tile : Float) → ℕ → Float → Float
segment_page segment x_tile y_tile k area =
    let yi = of_int binary32 (pos (k / tile_width)) in
    let i_f = of_int binary32 (pos (k % tile_width)) in
    let delta_x = sub binary32 segment.p1.x segment.p0.x in
    let delta_y = sub binary32 segment.p1.y segment.p0.y in
    let y = sub binary32 segment.p0.y (add binary32 y_tile yi) in
    let y0 = clamp_of y Number.zero Number.one in
    let y1 = clamp_of (add binary32 y delta_y) Number.zero Number.one in
    let dy = sub binary32 y0 y1 in
    let y_edge_lem =
    mul binary32 (signum_of delta_x)
    (clamp_of (add binary32 (sub binary32 (add binary32 y_tile yi) segment.y_edge) Number.one) Number.zero Number.one) in
    -- if dy != 0.0
    let vec_y_recip = div binary32 Number.one delta_y in
    let t0 = mul binary32 (sub binary32 y0 y) vec_y_recip in
    let t1 = mul binary32 (sub binary32 y1 y) vec_y_recip in
    let startx = sub binary32 segment.p0.x x_tile in
    let x0 = add binary32 startx (mul binary32 t0 delta_x) in
    let x1 = add binary32 startx (mul binary32 t1 delta_x) in
    let xmin0 = min_of x0 x1 in
    let xmax0 = max_of x0 x1 in
    let xmin = sub binary32 (min_of (sub binary32 xmin0 i_f) Number.one) Number.epsilon in
    let xmax = sub binary32 xmax0 i_f in
    let b = min_of xmax Number.one in
    let c = max_of b Number.zero in
    let d = max_of xmin Number.zero in
    let a =
    div binary32
    (sub binary32 (add binary32 b (mul binary32 Number.half (sub binary32 (mul binary32 d d) (mul binary32 c c)))) xmin)
    (sub binary32 xmax xmin) in
    cond (ne dy Number.zero) (add binary32 area (add binary32 y_edge_lem (mul binary32 a dy)))
    -- else if y_edge != 0.0
    (cond (ne y_edge_lem Number.zero) (add binary32 area y_edge_lem) area)

-- for segment in &segments[seg_data..][..n_segs]
unfoldable pub segments_page : List Float → ℕ → (x_tile y_tile : Float) → ℕ → ℕ → Float → Float
segments_page segments seg_data x_tile y_tile zero k area = area
segments_page segments seg_data x_tile y_tile (suc n) k area =
    segment_page (segment_at segments (seg_data + n)) x_tile y_tile k (segments_page segments seg_data x_tile y_tile n k area)

unfoldable pub fill_page : List Float → (seg_data n_segs : ℕ) → Bool → ℤ → (x_tile y_tile : Float) → ℕ → Float
fill_page segments seg_data n_segs even_odd backdrop x_tile y_tile k =
    let backdrop_f = of_int binary32 backdrop in
    let area = segments_page segments seg_data x_tile y_tile n_segs k backdrop_f in
    cond even_odd (abs_of (sub binary32 area (mul binary32 Number.two (round_of (mul binary32 Number.half area))))) (min_of (abs_of area) Number.one)
