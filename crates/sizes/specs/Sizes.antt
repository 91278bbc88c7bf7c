-- The call: tiles, references and command words, or a refusal. It writes nothing. docs/RULES.md, "Sizes". Definitions only.
use Rattle.std.specs.Prelude.{◌≡◌, List, [], ◌∷◌, ℕ, ◌*◌, ◌/◌, ◌%◌, eqb, leb, length, Float}
use Rattle.panel.specs.Limits.{most_tiles}
use Rattle.panel.specs.Refusals.{done_no, not_whole, too_many}
use Rattle.panel.specs.Widths.{line_floats, path_words}
use Rattle.panel.specs.Checks.{Check, check, first_no, unless}
use Rattle.panel.specs.Paths.{paths_answer}
use Rattle.panel.specs.Answer.{Answer}
use Rattle.sizes.specs.Refs.{refs_of}
use Rattle.sizes.specs.Words.{tiles_of, words_of}
use Rattle.sizes.specs.RefsMade.{Refs}
use Rattle.sizes.specs.declared.Room.{Room}
use Rattle.sizes.specs.Measured.{Measured, Done, Refused}

abbrev pub room_of : (tiles refs words : ℕ) → Room
room_of tiles refs words = record { tiles = tiles; refs = refs; words = words }

-- the answer on paper: the number, then the three sizes; or the number and the item's
abbrev pub paper_of : Measured → List ℕ
paper_of (Done r) = done_no ∷ r.tiles ∷ r.refs ∷ r.words ∷ []
paper_of (Refused n item) = n ∷ item ∷ []

-- ---- 1 to 4

-- the lengths lent: path numbers, coordinates, paths. Then the screen
abbrev pub lent_checks : (nn nc np cols rows : ℕ) → List Check
lent_checks nn nc np cols rows =
    check (eqb (nc % line_floats) 0) not_whole
    ∷ check (eqb nn (nc / line_floats)) not_whole
    ∷ check (eqb (np % path_words) 0) not_whole
    ∷ check (leb (cols * rows) most_tiles) too_many
    ∷ []

-- no tiles are lent: the paths' are held against as many as there can be
unfoldable pub call_answer : (nn nc : ℕ) (paths : List ℕ) (cols rows : ℕ) → Answer
call_answer nn nc paths cols rows = unless (first_no (lent_checks nn nc (length paths) cols rows)) 0 (paths_answer paths most_tiles)

-- ---- the call

abbrev pub measured : Refs → (tiles words : ℕ) → Measured
measured (Refs.Made m) tiles words = Done (room_of tiles m words)
measured (Refs.Refused n line) tiles words = Refused n line

abbrev pub asked : Answer → Measured → Measured
asked Answer.Done next = next
asked (Answer.Refused n item) next = Refused n item

unfoldable pub sizes_of : (nos : List ℕ) (coords : List Float) (paths : List ℕ) (cols rows : ℕ) → Measured
sizes_of nos coords paths cols rows =
    asked (call_answer (length nos) (length coords) paths cols rows) (measured (refs_of nos coords paths) (tiles_of paths) (words_of paths cols rows))

-- the call's promise: its answer is this
abbrev pub SizesMet : (nos : List ℕ) (coords : List Float) (paths : List ℕ) (cols rows : ℕ) → Measured → Type 0
SizesMet nos coords paths cols rows r = r ≡ sizes_of nos coords paths cols rows
