-- A segment's floats among those lent: tiling writes them, coverage reads them. docs/RULES.md, "How the records are lent". Definitions only.
use Rattle.std.specs.Prelude.{◌≡◌, Bool, true, ◌&&◌, List, [], ◌∷◌, ℕ, ◌+◌, ◌*◌, get_or, Float}
use Rattle.std.proofs.lemmas.List.Edits.{sets}
use Rattle.std.specs.Float.{nan}
use Rattle.std.specs.Float.Ieee.{le}
use Rattle.std.specs.Float.Ieee.Scale.{finite}
use Rattle.util.specs.Constants.{zero, tile_side}
use Rattle.util.specs.Vec.{new_of}
use Rattle.util.specs.declared.Vec2.{Vec2}
use Rattle.panel.specs.Widths.{segment_floats}
use Rattle.panel.specs.declared.segments.Segment.{Segment}

-- point0.x, point0.y, point1.x, point1.y, y_edge
abbrev pub floats_of : Segment → List Float
floats_of s = s.p0.x ∷ s.p0.y ∷ s.p1.x ∷ s.p1.y ∷ s.y_edge ∷ []

-- into its slot
abbrev pub put_of : ℕ → Segment → List Float → List Float
put_of slot s segs = sets segs (slot * segment_floats) (floats_of s)

-- and out of slot k
unfoldable pub segment_at : List Float → ℕ → Segment
segment_at l k =
    let b = segment_floats * k in
    record {
      p0 = new_of (get_or l b nan) (get_or l (b + 1) nan);
      p1 = new_of (get_or l (b + 2) nan) (get_or l (b + 3) nan);
      y_edge = get_or l (b + 4) nan;
    }

-- ---- within the tile

-- an end within 0..16, which NaN is not: of a segment that tiling makes (12), and of one that a fill is to take (20)
unfoldable pub held_of : Vec2 → Bool
held_of p = (le zero p.x && le p.x tile_side) && (le zero p.y && le p.y tile_side)

-- what is meant by an end in its tile: no NaN, and each of its values in 0..16
pub record InTile (p : Vec2) : Type 0 where
  pub left : le zero p.x ≡ true
  pub right : le p.x tile_side ≡ true
  pub top : le zero p.y ≡ true
  pub bottom : le p.y tile_side ≡ true

-- what a fill takes: both ends within the tile, and y_edge finite
unfoldable pub straight_of : Segment → Bool
straight_of s = (held_of s.p0 && held_of s.p1) && finite s.y_edge

-- in words
pub record Straight (s : Segment) : Type 0 where
  pub from_end : InTile s.p0
  pub to_end : InTile s.p1
  pub edge : finite s.y_edge ≡ true
