-- A line's pace, and its steps; or a line to be looked at in another way. Definitions only.
use Rattle.std.specs.Prelude.{Option, Some, None, ℕ}
use Rattle.walk.specs.declared.kinds.Pace.{Pace}

abbrev pub Inside : Type 0
Inside = Option (Pace × ℕ)

pattern abbrev pub In : Pace → ℕ → Inside
In a b = Some (a, b)

pattern abbrev pub Other : Inside
Other = None
