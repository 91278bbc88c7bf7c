-- A line's segment in its one tile; or a line to be looked at in another way. Definitions only.
use Rattle.std.specs.Prelude.{Option, Some, None}
use Rattle.panel.specs.declared.segments.Segment.{Segment}

abbrev pub Inside : Type 0
Inside = Option Segment

pattern abbrev pub Kept : Segment → Inside
Kept a = Some a

pattern abbrev pub Odd : Inside
Odd = None
