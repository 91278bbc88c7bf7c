-- The refusal numbers of docs/RULES.md, each named once for the contracts. Definitions only.
use Rattle.std.specs.Prelude.{List, [], ◌∷◌, ℕ}
use Rattle.panel.specs.declared.refusals.Refusal.{Refusal}

abbrev pub done_no : ℕ
done_no = 0

abbrev pub not_whole : ℕ
not_whole = 1

abbrev pub too_many : ℕ
too_many = 2

abbrev pub bad_box : ℕ
bad_box = 3

abbrev pub bad_range : ℕ
bad_range = 4

abbrev pub line_number : ℕ
line_number = 5

abbrev pub coordinate : ℕ
coordinate = 6

abbrev pub no_such : ℕ
no_such = 7

abbrev pub count_over : ℕ
count_over = 8

abbrev pub no_room_word : ℕ
no_room_word = 9

abbrev pub outside : ℕ
outside = 10

abbrev pub sum_over : ℕ
sum_over = 11

abbrev pub crooked : ℕ
crooked = 12

abbrev pub past_end : ℕ
past_end = 13

abbrev pub unknown : ℕ
unknown = 14

abbrev pub too_long_word : ℕ
too_long_word = 15

abbrev pub bad_screen : ℕ
bad_screen = 16

abbrev pub bad_size : ℕ
bad_size = 17

abbrev pub bad_file : ℕ
bad_file = 18

abbrev pub off_tile : ℕ
off_tile = 19

abbrev pub bad_segment : ℕ
bad_segment = 20

abbrev pub bad_text : ℕ
bad_text = 21

abbrev pub too_deep : ℕ
too_deep = 22

abbrev pub left_open : ℕ
left_open = 23

-- the number of a refusal as code has it
abbrev pub no_of : Refusal → ℕ
no_of Refusal.NotWhole = not_whole
no_of Refusal.TooMany = too_many
no_of Refusal.BadBox = bad_box
no_of Refusal.BadRange = bad_range
no_of Refusal.LineNumber = line_number
no_of Refusal.Coordinate = coordinate
no_of Refusal.NoSuch = no_such
no_of Refusal.CountOver = count_over
no_of Refusal.NoRoom = no_room_word
no_of Refusal.Outside = outside
no_of Refusal.SumOver = sum_over
no_of Refusal.Crooked = crooked
no_of Refusal.PastEnd = past_end
no_of Refusal.Unknown = unknown
no_of Refusal.TooLong = too_long_word
no_of Refusal.BadScreen = bad_screen
no_of Refusal.BadSize = bad_size
no_of Refusal.BadFile = bad_file
no_of Refusal.OffTile = off_tile
no_of Refusal.BadSegment = bad_segment
no_of Refusal.BadText = bad_text
no_of Refusal.TooDeep = too_deep
no_of Refusal.LeftOpen = left_open

-- all of them, in order
abbrev pub refusal_numbers : List ℕ
refusal_numbers =
    done_no
    ∷ not_whole
    ∷ too_many
    ∷ bad_box
    ∷ bad_range
    ∷ line_number
    ∷ coordinate
    ∷ no_such
    ∷ count_over
    ∷ no_room_word
    ∷ outside
    ∷ sum_over
    ∷ crooked
    ∷ past_end
    ∷ unknown
    ∷ too_long_word
    ∷ bad_screen
    ∷ bad_size
    ∷ bad_file
    ∷ off_tile
    ∷ bad_segment
    ∷ bad_text
    ∷ too_deep
    ∷ left_open
    ∷ []
