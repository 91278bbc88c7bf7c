-- What the functions of this crate tell each other. Only proofs lean on it: no promise of a public call does. Definitions only.
use Rattle.std.specs.Prelude.{◌≡◌, cond, List, ℕ, ◌+◌, ◌<◌, ltb, length, get_or}
use Rattle.lists.specs.Sums.{first}
use Rattle.panel.specs.Slots.{not32}
use Rattle.meeting.specs.First.{first_of}
use Rattle.meeting.specs.Found.{KeptBelow}
use Rattle.entries.specs.Entries.{slot_count, past_room}

-- what is noted of a tile: its first slot, or 0 where it has none
abbrev pub noted_slot : (count word : ℕ) → ℕ
noted_slot count word = cond (ltb 0 count) (not32 word) 0

-- that of the tiles before tile r stands in the room from a place on
abbrev pub SlotsNoted : (counts stored ws : List ℕ) (at r : ℕ) → Type 0
SlotsNoted counts stored ws at r = (t : ℕ) → t < r → get_or ws (at + t) 0 ≡ noted_slot (slot_count counts t) (get_or stored t 0)

pub record SlotsTo (room : ℕ) (counts stored ws ws' : List ℕ) (at r : ℕ) : Type 0 where
  pub first_past : r ≡ first_of (past_room room counts stored) (length counts)
  pub kept : KeptBelow at ws ws'
  pub noted : SlotsNoted counts stored ws' at r

-- the first sums of a list's first n words stand in the room from a place on
abbrev pub SumsNoted : (ws ws' : List ℕ) (at n : ℕ) → Type 0
SumsNoted ws ws' at n = (t : ℕ) → t < n → get_or ws' (at + t) 0 ≡ first ws t
