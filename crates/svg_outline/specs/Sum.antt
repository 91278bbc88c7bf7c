-- A number of lines, or more than there is room for. Definitions only.
use Rattle.std.specs.Prelude.{Option, Some, None, ℕ}

abbrev pub Sum : Type 0
Sum = Option ℕ

pattern abbrev pub Lines : ℕ → Sum
Lines a = Some a

pattern abbrev pub Over : Sum
Over = None
