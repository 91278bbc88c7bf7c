-- The page beside fine.rs is the coverage that is promised. Assumes nothing.
use mathlib.Core.Path.{◌≡◌, refl, ap, ◌∙◌}
use mathlib.Core.Bool.{Bool, true, false}
use mathlib.Core.List.{List}
use Prim.Native.Nat.{ℕ, zero, suc, ◌+◌}
use lib.IntN.{ℤ}
use lib.Ieee.{Float, binary32, of_int}
use Rattle.panel.specs.Segments.{segment_at}
use Rattle.panel.specs.declared.segments.Segment.{Segment}
use Rattle.one_row.specs.Row.{way_of, row_of, reach_of, added_of, slanted, edged, step_row, step_way, step_segment}
use Rattle.coverage.specs.Coverage.{area_after, finish_of, sum_of, pixel_of}
use Rattle.coverage.specs.Page.{segment_page, segments_page, fill_page}

one_segment : (s : Segment) (xt yt : Float) (k : ℕ) (a : Float) → step_segment s xt yt k a ≡ segment_page s xt yt k a
unfolding step_segment step_way step_row row_of way_of reach_of added_of slanted edged segment_page
one_segment s xt yt k a = refl

all_segments : (segs : List Float) (first : ℕ) (xt yt : Float) (n k : ℕ) (a : Float) → area_after segs first xt yt n k a ≡ segments_page segs first xt yt n k a
unfolding area_after segments_page
all_segments segs first xt yt zero k a = refl
all_segments segs first xt yt (suc n) k a =
    one_segment (segment_at segs (first + n)) xt yt k (area_after segs first xt yt n k a)
    ∙ ap (segment_page (segment_at segs (first + n)) xt yt k) (all_segments segs first xt yt n k a)

pub by_parts : (segs : List Float) (first n : ℕ) (even_odd : Bool) (backdrop : ℤ) (xt yt : Float) (k : ℕ)
    → pixel_of segs first n even_odd backdrop xt yt k ≡ fill_page segs first n even_odd backdrop xt yt k
unfolding finish_of sum_of pixel_of fill_page
by_parts segs first n true backdrop xt yt k = ap (finish_of true) (all_segments segs first xt yt n k (of_int binary32 backdrop))
by_parts segs first n false backdrop xt yt k = ap (finish_of false) (all_segments segs first xt yt n k (of_int binary32 backdrop))
