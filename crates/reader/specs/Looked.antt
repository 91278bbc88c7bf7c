-- What a look at a place finds: a word, or nothing past the end. Definitions only.
use Rattle.std.specs.Prelude.{Option, Some, None, ℕ}

abbrev pub Look : Type 0
Look = Option ℕ

pattern abbrev pub Word : ℕ → Look
Word a = Some a

pattern abbrev pub Past : Look
Past = None
