-- A step's tile, whether it marks the tile right of it, and its z; or a step to be looked at in another way. Definitions only.
use Rattle.std.specs.Prelude.{Option, Some, None, ℕ, Bool}

abbrev pub Stride : Type 0
Stride = Option (ℕ × Bool × ℕ)

pattern abbrev pub At : ℕ → Bool → ℕ → Stride
At a b c = Some (a, b, c)

pattern abbrev pub Other : Stride
Other = None
