-- The segments, and their tags, of docs/RULES.md, "Traces to try", by whole calls: a line over the box 0,0,2,2, its references, and the tiles as hand-out leaves them.
-- By computation.
use Prim.Native.Nat.{ℕ, ◌*◌}
use mathlib.Core.Path.{◌≡◌, refl}
use mathlib.Core.List.{List, [], ◌∷◌, map}
use lib.ListN.{replicate}
use lib.Ieee.{Float, binary32, add, sub, mul, div, neg, le, lt, eq, ne, of_int, of_bits, to_signed, to_unsigned, is_nan}
use Rattle.float32.specs.Meaning.{floor_of, ceil_of, round_of, abs_of, min_of, max_of, clamp_of, signed, sign_of}
use Rattle.util.specs.Span.{span_of}
use Rattle.panel.specs.Limits.{edge_most, coord_most}
use Rattle.panel.specs.Widths.{step_range, segment_floats}
use Rattle.panel.specs.Paths.{stamped, path_at, paths_from, paths_answer}
use Rattle.panel.specs.Answer.{Done, Refused}
use Rattle.panel.specs.Refusals.{no_such, no_room_word, outside}
use Rattle.walk.specs.Num.{float, cut_of, inside_of}
use Rattle.walk.specs.Setup.{ends_of}
use Rattle.walk.specs.Page.{line_of}
use Rattle.walk.specs.Skip.{flat_of, past_of}
use Rattle.walk.specs.Step.{z_at, tile_in, step_of}
use Rattle.walk.specs.Lent.{line_at, walked_of, walk_at}
use Rattle.segment.specs.Clips.{corner_of, far_of, at_row_of, at_col_of, clip_of, make_of, edge_of, off_of, turn_of, first_of, last_of, segment_of, piece_of}
use Rattle.panel.specs.Segments.{held_of}
use Rattle.panel.specs.Pieces.{pieces}
use Rattle.looks.specs.Look.{lent, found_of, piece_to, word_to, step_to, found_to, look_of}
use Rattle.path_tiling.specs.Tiling.{Tiled, tiled, range_of, whole_of, checks_of, call_of, tiled_of}

-- names all that a trace computes with
unfoldable computing : ℕ
unfolding add sub mul div neg le lt eq ne of_int of_bits to_signed to_unsigned is_nan floor_of ceil_of round_of abs_of min_of max_of clamp_of signed sign_of span_of edge_most
    coord_most step_range path_at paths_from paths_answer cut_of inside_of ends_of line_of flat_of past_of z_at tile_in step_of line_at walked_of walk_at corner_of far_of at_row_of
    at_col_of clip_of make_of edge_of off_of turn_of held_of first_of last_of segment_of piece_of found_of piece_to word_to step_to found_to look_of range_of whole_of checks_of
    call_of
computing = 0

-- floats by their bits, and so many zeros
abbrev bits : List ℕ → List Float
bits ns = map (of_bits binary32) ns

abbrev zeros : ℕ → List Float
zeros n = replicate n (of_bits binary32 0)

-- the first n references, of one line over the box 0,0,2,2 of beam 7; no tag is written yet
abbrev given : (n : ℕ) (px py qx qy : ℕ) (stored refs : List ℕ) (slots : ℕ) → Tiled
given n px py qx qy stored refs slots =
    tiled_of 0 n (lent (0 ∷ []) (float px ∷ float py ∷ float qx ∷ float qy ∷ []) (stamped 0 0 2 2 0 7) stored refs)
    (pieces (zeros (slots * segment_floats)) (replicate slots 0))

-- (8,8)-(8,24): x is bits 0x40FFFFFE at all four ends, y 8 to 16 and 0 to 8, y_edge 1e9
pub down : given 2 8 8 8 24 (4294967295 ∷ 0 ∷ 4294967294 ∷ 0 ∷ []) (0 ∷ 0 ∷ 0 ∷ 1 ∷ []) 2
    ≡ tiled Done
    (pieces (bits (0x40ff_fffe ∷ 0x4100_0000 ∷ 0x40ff_fffe ∷ 0x4180_0000 ∷ 0x4e6e_6b28 ∷ 0x40ff_fffe ∷ 0 ∷ 0x40ff_fffe ∷ 0x4100_0000 ∷ 0x4e6e_6b28 ∷ []))
    (7 ∷ 7 ∷ []))
unfolding computing
down = refl

-- upward, the ends change places
pub up : given 1 8 24 8 8 (4294967295 ∷ 0 ∷ 4294967294 ∷ 0 ∷ []) (0 ∷ 0 ∷ []) 1
    ≡ tiled Done (pieces (bits (0x40ff_fffe ∷ 0x4180_0000 ∷ 0x40ff_fffe ∷ 0x4100_0000 ∷ 0x4e6e_6b28 ∷ [])) (7 ∷ []))
unfolding computing
up = refl

-- (16,0)-(16,16): one segment, x 1e-6, y 0 to 16
pub edge : given 1 16 0 16 16 (0 ∷ 4294967295 ∷ 0 ∷ 0 ∷ []) (0 ∷ 0 ∷ []) 1
    ≡ tiled Done (pieces (bits (0x3586_37bd ∷ 0 ∷ 0x3586_37bd ∷ 0x4180_0000 ∷ 0x4e6e_6b28 ∷ [])) (7 ∷ []))
unfolding computing
edge = refl

-- (16,4)-(16,12): (1e-6,4) to (2e-6,4)
pub gone : given 1 16 4 16 12 (0 ∷ 4294967295 ∷ 0 ∷ 0 ∷ []) (0 ∷ 0 ∷ []) 1
    ≡ tiled Done (pieces (bits (0x3586_37bd ∷ 0x4080_0000 ∷ 0x3606_37bd ∷ 0x4080_0000 ∷ 0x4e6e_6b28 ∷ [])) (7 ∷ []))
unfolding computing
gone = refl

-- (0,4)-(8,8): y_edge 4
pub slanted : given 1 0 4 8 8 (4294967295 ∷ 0 ∷ 0 ∷ 0 ∷ []) (0 ∷ 0 ∷ []) 1
    ≡ tiled Done (pieces (bits (0 ∷ 0x4080_0000 ∷ 0x40ff_fffe ∷ 0x4100_0000 ∷ 0x4080_0000 ∷ [])) (7 ∷ []))
unfolding computing
slanted = refl

-- a stored 0 is an empty tile, and is skipped; so is a raw count
pub empty : given 2 8 8 8 24 (0 ∷ 0 ∷ 1 ∷ 0 ∷ []) (0 ∷ 0 ∷ 0 ∷ 1 ∷ []) 1 ≡ tiled Done (pieces (zeros segment_floats) (0 ∷ []))
unfolding computing
empty = refl

-- slot 1 where there is one slot: the first reference is written, the second refused
pub full : given 2 8 8 8 24 (4294967295 ∷ 0 ∷ 4294967294 ∷ 0 ∷ []) (0 ∷ 0 ∷ 0 ∷ 1 ∷ []) 1
    ≡ tiled (Refused no_room_word 1) (pieces (bits (0x40ff_fffe ∷ 0x4100_0000 ∷ 0x40ff_fffe ∷ 0x4180_0000 ∷ 0x4e6e_6b28 ∷ [])) (7 ∷ []))
unfolding computing
full = refl

-- a line that isn't there, a line that the walk skips, a step outside the box
pub no_line : given 1 8 8 8 24 (0 ∷ 0 ∷ 0 ∷ 0 ∷ []) (1 ∷ 0 ∷ []) 0 ≡ tiled (Refused no_such 0) (pieces [] [])
unfolding computing
no_line = refl

pub skipped : given 1 5 5 5 5 (0 ∷ 0 ∷ 0 ∷ 0 ∷ []) (0 ∷ 0 ∷ []) 0 ≡ tiled (Refused no_such 0) (pieces [] [])
unfolding computing
skipped = refl

pub off : given 1 8 8 8 24 (0 ∷ 0 ∷ 0 ∷ 0 ∷ []) (0 ∷ 2 ∷ []) 0 ≡ tiled (Refused outside 0) (pieces [] [])
unfolding computing
off = refl
