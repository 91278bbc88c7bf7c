-- The room that a pen has. Only proofs lean on this: no promise of a public call does. Definitions only.
use Rattle.std.specs.Prelude.{List, ℕ, ◌+◌, ◌*◌, ◌^◌, ◌≤◌}
use Rattle.commands.specs.Numbers.{jump_words, tile_words}
use Rattle.pairs.specs.declared.Pair.{Pair}
use Rattle.lay_pairs.specs.Layout.{jumps_of}
use Rattle.lay_pairs.specs.declared.Pen.{Pen}

-- the words that a JUMP's operand can name: those of all regions are, `write_lists/proofs/RegionLaws.antt`
abbrev pub words_named : ℕ
words_named = 2 ^ 32

-- so many words have room for these pairs from the pen on, all nameable by a JUMP, and now for a JUMP
pub record Room (pen : Pen) (ps : List Pair) (words : ℕ) : Type 0 where
  pub here : pen.at + pen.left ≤ words
  pub jump : jump_words ≤ pen.left
  pub fresh : pen.fresh + tile_words * jumps_of pen.left ps ≤ words
  pub named : pen.fresh + tile_words * jumps_of pen.left ps ≤ words_named
