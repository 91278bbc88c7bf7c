-- A line's pace, its path, the number of its steps, and whether it goes upward; or a line to be walked. Definitions only.
use Rattle.std.specs.Prelude.{Option, Some, None, ℕ, Bool}
use Rattle.panel.specs.declared.kinds.Path.{Path}
use Rattle.walk.specs.declared.kinds.Pace.{Pace}

abbrev pub Within : Type 0
Within = Option (Pace × Path × ℕ × Bool)

pattern abbrev pub Line : Pace → Path → ℕ → Bool → Within
Line a b c d = Some (a, b, c, d)

pattern abbrev pub Other : Within
Other = None
