-- A number that was read and the place of the white space after it, or none. Definitions only.
use Rattle.std.specs.Prelude.{Option, Some, ℕ}

abbrev pub Number : Type 0
Number = Option (ℕ × ℕ)

pattern abbrev pub At : ℕ → ℕ → Number
At a b = Some (a, b)
