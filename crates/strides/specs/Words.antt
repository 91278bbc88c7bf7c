-- A step noted in one word. Only proofs lean on this: no promise of a public call does. Definitions only.
use Rattle.std.specs.Prelude.{ℕ, ◌+◌, ◌*◌, ◌/◌, ◌%◌, Bool, cond, ◌==◌}

-- the word of a step on tile t: the tile's number twice, and one more where the step marks the tile right of it
unfoldable pub word_of : ℕ → Bool → ℕ
word_of t marks = t * 2 + cond marks 1 0

-- the tile of a word's step
unfoldable pub word_tile : ℕ → ℕ
word_tile k = k / 2

-- whether it marks
unfoldable pub word_marks : ℕ → Bool
word_marks k = k % 2 == 1

-- the tile that it marks, or its own where it marks none
abbrev pub word_next : ℕ → ℕ
word_next k = cond (word_marks k) (word_tile k + 1) (word_tile k)
