-- How a tile's pairs are laid out in regions of words: which words go where. No memory here. docs/RULES.md, "Command lists". Definitions only.
use Rattle.std.specs.Prelude.{Bool, true, false, List, [], ◌∷◌, ◌++◌, ℕ, ◌+◌, ◌-◌, ◌*◌, leb, length}
use Rattle.std.proofs.lemmas.List.Edits.{sets}
use Rattle.lists.specs.Run.{act_all}
use Rattle.commands.specs.Numbers.{end_no, encode_to, encode, jump_words, tile_words, list_start, start_of}
use Rattle.commands.specs.declared.steps.Act.TheVariants.{Color, Jump}
use Rattle.pairs.specs.Pairs.{cover_of, colour_of}
use Rattle.pairs.specs.declared.Pair.{Pair}
use Rattle.lay_pairs.specs.declared.Pen.{Pen}

-- a pair's words: those of its two commands
abbrev pub pair_words : Pair → List ℕ
pair_words p = encode (cover_of p) ++ encode (Color (colour_of p))

abbrev pub pair_size : Pair → ℕ
pair_size p = length (pair_words p)

-- words, and the place where the first of them goes
pub record Chunk : Type 0 where
  pub place : ℕ
  pub words : List ℕ

abbrev pub chunk : ℕ → List ℕ → Chunk
chunk at ws = record { place = at; words = ws }

-- a pen: the place of the next word, how many words are left in its region, and the place of the next fresh region
abbrev pub pen_at : ℕ → ℕ → ℕ → Pen
pen_at at left fresh = record { at = at; left = left; fresh = fresh }

-- whether so many words have room for a pair and a JUMP: then END, shorter than a JUMP, has room too
abbrev pub fits : Pair → ℕ → Bool
fits p left = leb (pair_size p + jump_words) left

-- where there is no room: a JUMP to the fresh region's first word
abbrev pub jump_if : Bool → Pen → List Chunk
jump_if true pen = []
jump_if false pen = chunk pen.at (encode_to pen.fresh Jump) ∷ []

-- and the pen stands there, with all that region's words left
abbrev pub turned : Bool → Pen → Pen
turned true pen = pen
turned false pen = pen_at pen.fresh tile_words (pen.fresh + tile_words)

-- the pen after a pair's words
abbrev pub past : Pair → Pen → Pen
past p pen = pen_at (pen.at + pair_size p) (pen.left - pair_size p) pen.fresh

-- where a pair is put, and where the pen is then
abbrev pub before : Pair → Pen → Pen
before p pen = turned (fits p pen.left) pen

abbrev pub after : Pair → Pen → Pen
after p pen = past p (before p pen)

abbrev pub pair_chunks : Pair → Pen → List Chunk
pair_chunks p pen = jump_if (fits p pen.left) pen ++ (chunk (before p pen).at (pair_words p) ∷ [])

-- the pairs one after another, then END
abbrev pub laid : Pen → List Pair → List Chunk
laid pen [] = chunk pen.at (end_no ∷ []) ∷ []
laid pen (p ∷ ps) = pair_chunks p pen ++ laid (after p pen) ps

-- ---- how many fresh regions that takes, which is the number of its JUMPs, where so many words are left at first

abbrev pub jump_count : Bool → ℕ
jump_count true = 0
jump_count false = 1

abbrev pub left_at : Bool → ℕ → ℕ
left_at true left = left
left_at false left = tile_words

abbrev pub left_after : Pair → ℕ → ℕ
left_after p left = left_at (fits p left) left - pair_size p

abbrev pub jumps_of : ℕ → List Pair → ℕ
jumps_of left [] = 0
jumps_of left (p ∷ ps) = jump_count (fits p left) + jumps_of (left_after p left) ps

-- ---- a tile's list starts in the tile's own region

abbrev pub own_words : ℕ
own_words = tile_words - list_start

abbrev pub pen_of : ℕ → ℕ → Pen
pen_of t fresh = pen_at (start_of t) own_words fresh

-- its commands, END not counted
abbrev pub commands_of : List Pair → ℕ
commands_of ps = 2 * length ps + jumps_of own_words ps

-- ---- words written into memory: each chunk at its place, other words stay

abbrev pub written : List Chunk → List ℕ → List ℕ
written cs ws = act_all (λ c. λ m. sets m c.place c.words) cs ws

-- ---- part of a list: these pairs and no END yet, and the pen after them

abbrev pub begun : Pen → List Pair → List Chunk
begun pen [] = []
begun pen (p ∷ ps) = pair_chunks p pen ++ begun (after p pen) ps

abbrev pub pen_after : Pen → List Pair → Pen
pen_after pen [] = pen
pen_after pen (p ∷ ps) = pen_after (after p pen) ps
