-- How a tile's word stands for its first slot: hand-out writes it, tiling and the lists' writer read it. docs/RULES.md, "The walk of a line".
-- Definitions only.
use Rattle.std.specs.Prelude.{Bool, ℕ, ◌+◌, ◌-◌, ◌^◌, ltb}

-- the bitwise NOT of a u32
abbrev pub not32 : ℕ → ℕ
not32 x = 2 ^ 32 - 1 - x

-- a word below this was handed no slot, and its NOT is negative as an i32: tiling skips its tile
abbrev pub handed_from : ℕ
handed_from = 2 ^ 31

abbrev pub skips : ℕ → Bool
skips w = ltb w handed_from

-- of a tile with any other word: the slot of its slice with that number, from its first on
abbrev pub slot_of : ℕ → ℕ → ℕ
slot_of word slice = not32 word + slice
