-- A step that a line makes: how many steps of its clipped walk stand before it, and its tile. Or no step that a line makes. Definitions only.
use Rattle.std.specs.Prelude.{Option, Some, None, ℕ}

abbrev pub Made : Type 0
Made = Option (ℕ × ℕ)

pattern abbrev pub At : ℕ → ℕ → Made
At a b = Some (a, b)

pattern abbrev pub Not : Made
Not = None
