-- How many lines a text draws, and whether there is room for them. Definitions only.
use Rattle.std.specs.Prelude.{cond, List, ℕ, ◌^◌, leb}
use Rattle.svg_tokens.specs.Tokens.{tokens_of}
use Rattle.svg_outline.specs.Sum.{Sum}
use Rattle.svg_outline.specs.Sum.{Lines, Over}
use Rattle.svg_outline.specs.Tokens.{start_of, count_of}

-- no room is larger: lines have four floats each
abbrev pub room_most : ℕ
room_most = 2 ^ 62

abbrev pub text_count : ℕ → List ℕ → ℕ
text_count d s = count_of d start_of (tokens_of 0 s)

unfoldable pub sum_of : ℕ → ℕ → Sum
sum_of room n = cond (leb n room) (Lines n) Over
