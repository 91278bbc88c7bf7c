-- What a line within one tile comes to: its segment, its tile's word and its tag; or a line to be looked at in another way. Definitions only.
use Rattle.std.specs.Prelude.{Option, Some, None, ℕ}
use Rattle.panel.specs.declared.segments.Segment.{Segment}

abbrev pub Short : Type 0
Short = Option (Segment × ℕ × ℕ)

pattern abbrev pub In : Segment → ℕ → ℕ → Short
In a b c = Some (a, b, c)

pattern abbrev pub Other : Short
Other = None
