-- A pixel's coverage by the segments that stand at slots, as the picture's own fold over a list of pieces. Assumes nothing.
use mathlib.Core.Path.{◌≡◌, refl, ap, ◌∙◌}
use mathlib.Core.Bool.{Bool}
use mathlib.Core.List.{List, [], ◌∷◌}
use Prim.Native.Nat.{ℕ, zero, suc, ◌+◌, ◌<◌}
use native.Mathlib.Omega.{arith}
use borrow.Author.Tests.{lt-ltb}
use lib.IntN.{ℤ}
use lib.ListN.{length}
use lib.Ieee.{Float, binary32, of_int}
use Rattle.util.specs.Constants as Number
use Rattle.lists.specs.Run.{act_all}
use Rattle.panel.specs.Segments.{segment_at}
use Rattle.panel.specs.Slots.{not32}
use Rattle.panel.specs.declared.segments.Segment.{Segment}
use Rattle.one_row.specs.Row.{step_segment}
use Rattle.coverage.specs.Coverage.{area_after, finish_of, sum_of, pixel_of}
use Rattle.colours.specs.Colour.{colour_of, over_of}
use Rattle.commands.specs.Pixel.{even_odd_of}
use Rattle.list_theorems.specs.Painted.{paint_tile}
use Rattle.picture.specs.Picture.{cover_of, lay_of}

-- the n segments from the first on, as coverage reads them
abbrev pub read_from : List Float → ℕ → ℕ → List Segment
read_from segs first zero = []
read_from segs first (suc n) = segment_at segs first ∷ read_from segs (suc first) n

pub read_length : (segs : List Float) (first n : ℕ) → length (read_from segs first n) ≡ n
read_length segs first zero = refl
read_length segs first (suc n) = ap suc (read_length segs (suc first) n)

-- the first segment may be taken first
area_first : (segs : List Float) (first n k : ℕ) (a : Float)
    → area_after segs first Number.zero Number.zero (suc n) k a
    ≡ area_after segs (suc first) Number.zero Number.zero n k (step_segment (segment_at segs first) Number.zero Number.zero k a)
unfolding area_after
area_first segs first zero k a = let z : first + 0 ≡ first = omega arith in rw z
area_first segs first (suc n) k a =
    let z : first + suc n ≡ suc first + n = omega arith in
    rw z (ap (step_segment (segment_at segs (suc first + n)) Number.zero Number.zero k) (area_first segs first n k a))

pub area_read : (segs : List Float) (first n k : ℕ) (a : Float)
    → area_after segs first Number.zero Number.zero n k a ≡ act_all (λ s. step_segment s Number.zero Number.zero k) (read_from segs first n) a
unfolding area_after
area_read segs first zero k a = refl
area_read segs first (suc n) k a =
    area_first segs first n k a ∙ area_read segs (suc first) n k (step_segment (segment_at segs first) Number.zero Number.zero k a)

-- a pixel's coverage
pub pixel_read : (segs : List Float) (first n : ℕ) (even_odd : Bool) (b : ℤ) (k : ℕ)
    → pixel_of segs first n even_odd b Number.zero Number.zero k ≡ cover_of even_odd k (read_from segs first n) b
unfolding pixel_of sum_of cover_of
pixel_read segs first n even_odd b k = ap (finish_of even_odd) (area_read segs first n k (of_int binary32 b))

-- a tile painted by its tally, its stored word and its backdrop is laid by its pieces and its winding, where these are what it holds
pub tile_laid : (segs : List Float) (k colour rule count stored : ℕ) (b : ℤ) (px : List Float) (pieces : List Segment) (w : ℤ)
    → read_from segs (not32 stored) count ≡ pieces → b ≡ w → paint_tile segs k colour rule count stored b px ≡ lay_of k colour rule pieces w px
unfolding paint_tile
tile_laid segs k colour rule zero stored b px pieces w e f = rw (← e, f)
tile_laid segs k colour rule (suc n) stored b px pieces w e f =
    let z : 0 < suc n = omega arith in
    rw (lt-ltb 0 (suc n) z, ← e, ← f) (ap (λ (a : Float). over_of (colour_of colour) a px) (pixel_read segs (not32 stored) (suc n) (even_odd_of rule) b k))
