-- The commands' numbers, words and sizes, and where a tile's list starts, each named once for the contracts. Definitions only.
use Rattle.std.specs.Prelude.{List, [], ◌∷◌, ℕ, ◌+◌, ◌*◌, length}
use Rattle.commands.specs.declared.steps.Op.{Op}
use Rattle.commands.specs.declared.steps.Op.TheVariants.{Fill, Solid, Color, Jump, Unknown}
use Rattle.commands.specs.declared.steps.Act.{Act}
use Rattle.commands.specs.declared.steps.Act.TheVariants as Does

abbrev pub end_no : ℕ
end_no = 0

abbrev pub fill_no : ℕ
fill_no = 1

abbrev pub solid_no : ℕ
solid_no = 2

abbrev pub color_no : ℕ
color_no = 3

abbrev pub jump_no : ℕ
jump_no = 4

-- a command's words. A JUMP's second word is the place `to` where the next command stands; no other command says where
abbrev pub encode_to : ℕ → Act → List ℕ
encode_to to (Does.Fill rule first backdrop) = fill_no ∷ rule ∷ first ∷ backdrop ∷ []
encode_to to Does.Solid = solid_no ∷ []
encode_to to (Does.Color word) = color_no ∷ word ∷ []
encode_to to Does.Jump = jump_no ∷ to ∷ []

-- those of a command that has the next one after it
abbrev pub encode : Act → List ℕ
encode a = encode_to 0 a

-- a size is the length of a command's words, whatever they say
abbrev pub fill_words : ℕ
fill_words = length (encode (Does.Fill 0 0 0))

abbrev pub solid_words : ℕ
solid_words = length (encode Does.Solid)

abbrev pub color_words : ℕ
color_words = length (encode (Does.Color 0))

abbrev pub jump_words : ℕ
jump_words = length (encode Does.Jump)

-- a command's size in words: of an unknown one there is only the first
abbrev pub words_of : Op → ℕ
words_of Fill = fill_words
words_of Solid = solid_words
words_of Color = color_words
words_of Jump = jump_words
words_of Unknown = 1

-- words to a tile's region, and the word of it that its list starts at
abbrev pub tile_words : ℕ
tile_words = 64

abbrev pub list_start : ℕ
list_start = 1

abbrev pub start_of : ℕ → ℕ
start_of t = tile_words * t + list_start
