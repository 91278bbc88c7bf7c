-- A step's word says what it was made from. Assumes nothing.
use Rattle.std.proofs.Common.{◌≡◌, ℕ, ◌+◌, ◌*◌, ◌%◌, Bool, true, false, arith}
use Rattle.strides.specs.Words.{word_of, word_tile, word_marks}

pub tile_told : (t : ℕ) (m : Bool) → word_tile (word_of t m) ≡ t
unfolding word_of word_tile
tile_told t true = omega arith
tile_told t false = omega arith

pub marks_told : (t : ℕ) (m : Bool) → word_marks (word_of t m) ≡ m
unfolding word_of word_marks
marks_told t true = let r : (t * 2 + 1) % 2 ≡ 1 = omega arith in rw r
marks_told t false = let r : (t * 2 + 0) % 2 ≡ 0 = omega arith in rw r
