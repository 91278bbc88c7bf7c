-- A segment, or none where an end lies outside the tile (12). Definitions only.
use Rattle.std.specs.Prelude.{Option, Some, None}
use Rattle.panel.specs.declared.segments.Segment.{Segment}

abbrev pub Piece : Type 0
Piece = Option Segment

pattern abbrev pub Kept : Segment → Piece
Kept a = Some a

pattern abbrev pub Crooked : Piece
Crooked = None
