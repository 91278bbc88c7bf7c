-- The two places; or a reference that our lines don't make, or whose slice number reaches our count. Definitions only.
use Rattle.std.specs.Prelude.{Option, Some, None, ℕ}

abbrev pub Key : Type 0
Key = Option (ℕ × ℕ)

pattern abbrev pub Places : ℕ → ℕ → Key
Places a b = Some (a, b)

pattern abbrev pub Stray : Key
Stray = None
