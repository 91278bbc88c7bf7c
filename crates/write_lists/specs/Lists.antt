-- The call: a list for each screen tile, or a refusal that writes nothing. docs/RULES.md, "Command lists" and refusals 1 to 4, 9 and 15.
-- Definitions only.
use Rattle.std.specs.Prelude.{◌≡◌, Bool, true, cond, ◌&&◌, List, [], ◌∷◌, ◌++◌, ℕ, ◌+◌, ◌*◌, ◌/◌, ◌%◌, eqb, leb, length}
use Rattle.lists.specs.Sums.{from}
use Rattle.panel.specs.Limits.{most_tiles, most_commands}
use Rattle.panel.specs.Refusals.{not_whole, too_many, no_room_word, too_long_word}
use Rattle.panel.specs.Widths.{path_words, paint_words}
use Rattle.panel.specs.Kinds.{paper_of}
use Rattle.panel.specs.Checks.{Check, check, first_no, unless}
use Rattle.panel.specs.Paths.{paths_answer}
use Rattle.panel.specs.Answer.{Answer}
use Rattle.panel.specs.Answer.{Done, Refused}
use Rattle.commands.specs.Numbers.{tile_words}
use Rattle.pairs.specs.Pairs.{Tables, tile_pairs}
use Rattle.lay_pairs.specs.Layout.{Chunk, laid, jumps_of, own_words, pen_of, commands_of, written}
use Rattle.lay_pairs.specs.Slots.{all_fit}

-- ---- 1 to 4

-- the lengths lent: paths, paints, backdrops, stored words, tally. Then the screen
abbrev pub lent_checks : (np nc nb ns nk cols rows : ℕ) → List Check
lent_checks np nc nb ns nk cols rows =
    check (eqb (np % path_words) 0) not_whole
    ∷ check (eqb nc (paint_words * (np / path_words))) not_whole
    ∷ check (eqb ns nb) not_whole
    ∷ check (eqb nk nb) not_whole
    ∷ check (leb (cols * rows) most_tiles) too_many
    ∷ []

unfoldable pub call_answer : Tables → ℕ → ℕ → Answer
call_answer s cols rows =
    unless (first_no (lent_checks (length s.paths) (length s.paints) (length s.backdrops) (length s.stored) (length s.tally) cols rows)) 0
    (paths_answer s.paths (length s.backdrops))

-- ---- 15: the first of these screen tiles whose list has too many commands

abbrev pub long_from : Tables → ℕ → List ℕ → Answer
long_from s cols [] = Done
long_from s cols (t ∷ ts) = cond (leb (commands_of (tile_pairs s cols t)) most_commands) (long_from s cols ts) (Refused too_long_word t)

-- ---- 9

-- the fresh regions that these screen tiles take
abbrev pub fresh_of : Tables → ℕ → List ℕ → ℕ
fresh_of s cols [] = 0
fresh_of s cols (t ∷ ts) = jumps_of own_words (tile_pairs s cols t) + fresh_of s cols ts

-- whether the slots of all FILLs on these screen tiles fit
abbrev pub fills_fit : Tables → ℕ → ℕ → List ℕ → Bool
fills_fit s cols room [] = true
fills_fit s cols room (t ∷ ts) = all_fit room (tile_pairs s cols t) && fills_fit s cols room ts

-- the words of so many regions, with so many lent, and whether all FILLs' slots fit
abbrev pub room_checks : ℕ → ℕ → Bool → List Check
room_checks regions lent slots =
    check (leb (tile_words * regions) lent) no_room_word
    ∷ check slots no_room_word
    ∷ []

-- ---- the lists of these screen tiles, where the next fresh region is at `fresh`

abbrev pub lists_from : Tables → ℕ → ℕ → List ℕ → List Chunk
lists_from s cols fresh [] = []
lists_from s cols fresh (t ∷ ts) =
    laid (pen_of t fresh) (tile_pairs s cols t) ++ lists_from s cols (fresh + tile_words * jumps_of own_words (tile_pairs s cols t)) ts

-- ---- the call

-- the screen's tiles, and the regions that their lists need: one each, and the fresh ones
abbrev pub screen_tiles : ℕ → ℕ → List ℕ
screen_tiles cols rows = from 0 (cols * rows)

unfoldable pub regions_of : Tables → ℕ → ℕ → ℕ
regions_of s cols rows = cols * rows + fresh_of s cols (screen_tiles cols rows)

abbrev pub then_check : Answer → Answer → Answer
then_check Done next = next
then_check (Refused n item) next = Refused n item

-- 1 to 4, then 15 over all screen tiles, then 9; `lent` words are there to write in
unfoldable pub answer_of : Tables → (cols rows room lent : ℕ) → Answer
answer_of s cols rows room lent =
    then_check (call_answer s cols rows)
    (then_check (long_from s cols (screen_tiles cols rows))
    (unless (first_no (room_checks (regions_of s cols rows) lent (fills_fit s cols room (screen_tiles cols rows)))) 0 Done))

-- all lists: fresh regions come after those of all tiles, in the order of the tiles
unfoldable pub lists_of : Tables → ℕ → ℕ → List Chunk
lists_of s cols rows = lists_from s cols (tile_words * (cols * rows)) (screen_tiles cols rows)

-- after the call: its answer on paper, and the words
pub record Left : Type 0 where
  pub paper : List ℕ
  pub words : List ℕ

abbrev pub left : Answer → List ℕ → Left
left a ws = record { paper = paper_of a; words = ws }

abbrev pub on_done : Answer → List ℕ → List ℕ → Left
on_done Done old new = left Done new
on_done (Refused n item) old new = left (Refused n item) old

unfoldable pub write_lists_of : Tables → (cols rows room : ℕ) → List ℕ → Left
write_lists_of s cols rows room ws = on_done (answer_of s cols rows room (length ws)) ws (written (lists_of s cols rows) ws)

-- the call's promise: the answer r and the words afterwards are these
abbrev pub ListsMet : Tables → (cols rows room : ℕ) → List ℕ → Answer → List ℕ → Type 0
ListsMet s cols rows room ws r ws' = left r ws' ≡ write_lists_of s cols rows room ws
