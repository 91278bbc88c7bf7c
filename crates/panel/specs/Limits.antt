-- The limits of docs/RULES.md, each named once for the contracts. Those that are shut (`unfoldable`) are opened only where code holds a number against
-- them and where a trace is computed; proofs cite what is said of them in proofs/LimitLaws.antt. Definitions only.
use Rattle.std.specs.Prelude.{List, [], ◌∷◌, ℕ, Float}
use Rattle.std.specs.Float.{binary32}
use Rattle.std.specs.Float.Ieee.{of_bits}

abbrev pub most_paths : ℕ
most_paths = 4096

-- tiles, and screen tiles
abbrev pub most_tiles : ℕ
most_tiles = 1048576

unfoldable pub edge_most : ℕ
edge_most = 4096

-- line numbers, step numbers and tile counts are below these
abbrev pub most_lines : ℕ
most_lines = 65536

unfoldable pub most_steps : ℕ
most_steps = 65536

abbrev pub most_count : ℕ
most_count = 65536

-- references and slots
abbrev pub most_slots : ℕ
most_slots = 16777216

abbrev pub most_commands : ℕ
most_commands = 4096

-- the size of a coordinate: as a whole number, as bits (of which one more is the next float), and as the float that code compares with
unfoldable pub coord_whole : ℕ
coord_whole = 65536

unfoldable pub coord_bits : ℕ
coord_bits = 0x4780_0000

unfoldable pub coord_most : Float
unfolding coord_bits
coord_most = of_bits binary32 coord_bits

-- a picture's width, and its height, in pixels
abbrev pub side_most : ℕ
side_most = 16384

-- all of them, the coordinate's apart
abbrev pub limits : List ℕ
limits =
    most_paths
    ∷ most_tiles
    ∷ edge_most
    ∷ most_lines
    ∷ most_steps
    ∷ most_count
    ∷ most_slots
    ∷ most_commands
    ∷ side_most
    ∷ []
