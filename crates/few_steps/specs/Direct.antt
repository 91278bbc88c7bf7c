-- A line inside its path's box counted, with the number of its references; or one to be walked. Definitions only.
use Rattle.std.specs.Prelude.{Option, Some, None, ℕ}

abbrev pub Direct : Type 0
Direct = Option ℕ

pattern abbrev pub On : ℕ → Direct
On a = Some a

pattern abbrev pub Other : Direct
Other = None
