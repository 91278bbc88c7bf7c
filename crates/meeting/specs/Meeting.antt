-- Ranges of keys, by their first keys and their lengths: when two of them meet, and the first that meets an earlier one. By looking at all
-- pairs: no window and no flags. Definitions only.
use Rattle.std.specs.Prelude.{Bool, List, ℕ, ◌+◌, min, max, ltb, get_or}
use Rattle.meeting.specs.First.{first_of, some_below_word}

-- ranges i and j have a key in common: the later start lies before the earlier end
abbrev pub meets : (start len : ℕ → ℕ) → (i j : ℕ) → Bool
meets start len i j = ltb (max (start i) (start j)) (min (start i + len i) (start j + len j))

-- range i meets an earlier one
unfoldable pub meets_earlier : (start len : ℕ → ℕ) → ℕ → Bool
meets_earlier start len i = some_below_word (meets start len i) i

-- the first of the n ranges that meets an earlier one; n where none does
unfoldable pub first_meeting : (start len : ℕ → ℕ) → ℕ → ℕ
first_meeting start len n = first_of (meets_earlier start len) n

-- first keys that stand in a list from a place on
abbrev pub starts_at : List ℕ → ℕ → ℕ → ℕ
starts_at ws at i = get_or ws (at + i) 0

-- lengths in a list; 1 for each range past its end
abbrev pub lens_in : List ℕ → ℕ → ℕ
lens_in ls i = get_or ls i 1
