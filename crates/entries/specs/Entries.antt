-- Which entries of another's counts and slots are at fault, by looking at each entry beside all earlier ones.
-- Definitions only.
use Rattle.std.specs.Prelude.{Bool, not, ◌&&◌, ◌||◌, List, ℕ, ◌+◌, ltb, eqb, length, get_or}
use Rattle.panel.specs.Slots.{not32}
use Rattle.meeting.specs.First.{first_of}
use Rattle.meeting.specs.Meeting.{meets_earlier}

-- a count is at fault where it isn't ours
abbrev pub count_fault : (counts ours : List ℕ) → ℕ → Bool
count_fault counts ours t = not (eqb (get_or counts t 0) (get_or ours t 0))

unfoldable pub first_count_fault : (counts ours : List ℕ) → ℕ
first_count_fault counts ours = first_of (count_fault counts ours) (length counts)

-- a tile's first slot, as its word has it
abbrev pub first_slot : List ℕ → ℕ → ℕ
first_slot stored t = not32 (get_or stored t 0)

-- so many slots has a tile
abbrev pub slot_count : List ℕ → ℕ → ℕ
slot_count counts t = get_or counts t 0

-- a tile that has slots, not all of them within the room
abbrev pub past_room : (room : ℕ) (counts stored : List ℕ) → ℕ → Bool
past_room room counts stored t = ltb 0 (slot_count counts t) && ltb room (first_slot stored t + slot_count counts t)

-- a tile's slots are at fault if past the room, or over an earlier tile's; a tile with count 0 has none, whatever is stored
unfoldable pub slot_fault : (room : ℕ) (counts stored : List ℕ) → ℕ → Bool
slot_fault room counts stored t = past_room room counts stored t || meets_earlier (first_slot stored) (slot_count counts) t

unfoldable pub first_slot_fault : (room : ℕ) (counts stored : List ℕ) → ℕ
first_slot_fault room counts stored = first_of (slot_fault room counts stored) (length counts)
