-- A header that was read: width, height and the place of the raster; or none. Definitions only.
use Rattle.std.specs.Prelude.{Option, Some, None, ℕ}

abbrev pub Head : Type 0
Head = Option (ℕ × ℕ × ℕ)

pattern abbrev pub Size : ℕ → ℕ → ℕ → Head
Size a b c = Some (a, b, c)

pattern abbrev pub NoHead : Head
NoHead = None
