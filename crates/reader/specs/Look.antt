-- What stands at a place of the words lent: a word, or nothing past the end. Definitions only.
use Rattle.std.specs.Prelude.{ℕ, List, cond, length, get_or, ltb}
use Rattle.reader.specs.Looked.{Look, Word, Past}

abbrev pub look_at : List ℕ → ℕ → Look
look_at s at = cond (ltb at (length s)) (Word (get_or s at 0)) Past
