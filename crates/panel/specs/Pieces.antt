-- What tiling writes at a slot, among all that is lent for it: the segment's floats, and its tag, the beam number of the path that the segment is of.
-- docs/RULES.md, "How the records are lent". Definitions only.
use Rattle.std.specs.Prelude.{List, ℕ, set, Float}
use Rattle.panel.specs.Segments.{put_of}
use Rattle.panel.specs.declared.segments.Segment.{Segment}

-- five floats, and one tag, for each slot
pub record Pieces : Type 0 where
  pub segments : List Float
  pub tags : List ℕ

abbrev pub pieces : List Float → List ℕ → Pieces
pieces segs tags = record { segments = segs; tags = tags }

-- a segment and its tag into their slot
abbrev pub placed : ℕ → Segment → ℕ → Pieces → Pieces
placed slot s tag p = pieces (put_of slot s p.segments) (set p.tags slot tag)
