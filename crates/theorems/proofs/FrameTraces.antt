-- Frames of one line, (8,8)-(8,24) over the box 0,0,2,2, computed: the premises of the other theorems can be met. What an older frame left in the tiles
-- isn't counted on. Assumes nothing.
use mathlib.Core.Path.{◌≡◌, refl}
use mathlib.Core.List.{List, [], ◌∷◌, map}
use Prim.Native.Nat.{ℕ, ◌*◌}
use lib.IntN.{pos, negsuc}
use lib.ListN.{replicate}
use lib.Ieee.{Float, binary32, of_bits}
use Rattle.panel.specs.Paths.{stamped}
use Rattle.panel.specs.Pieces.{Pieces, pieces}
use Rattle.panel.specs.Widths.{segment_floats}
use Rattle.panel.specs.Refusals.{not_whole, coordinate, no_room_word, crooked}
use Rattle.panel.specs.Kinds.{running_of}
use Rattle.backdrop.specs.Backdrop.{row_sums, row_fits, rows_sums, rows_fit, sum_paths, backdrop_of}
use Rattle.frame.specs.Frame.{Out, out_of, placed_of, drawn_of, checks_of as frame_checks, frame_of}
use Rattle.frame.specs.declared.kinds.Stage.TheVariants as Stage
use Rattle.frame.specs.Framed.{Done, Refused}
use Rattle.theorems.specs.Starred.{floats_of}
use Rattle.theorems.proofs.StarredTable.{computing}

-- so many slots, their segments and tags all 0
abbrev empty : ℕ → Pieces
empty slots = pieces (replicate (slots * segment_floats) (of_bits binary32 0)) (replicate slots 0)

-- of a beam stamped 7, with so many tally words and slots; the tiles and the tally hold what an older frame left
abbrev shot : (ends : List Float) (kept slots : ℕ) → Out
shot ends kept slots =
    frame_of (0 ∷ []) ends (stamped 0 0 2 2 0 7) (pos 5 ∷ negsuc 0 ∷ pos 0 ∷ pos 9 ∷ []) (3 ∷ 0 ∷ 4294967295 ∷ 7 ∷ []) (replicate kept 8) (0 ∷ 0 ∷ 0 ∷ 0 ∷ [])
    (empty slots)

abbrev down : List Float
down = floats_of (8 ∷ 8 ∷ 8 ∷ 24 ∷ [])

pub a_frame : shot down 4 2
    ≡ out_of (Done (running_of 1 2)) (pos 0 ∷ pos 0 ∷ pos 0 ∷ negsuc 0 ∷ []) (4294967295 ∷ 0 ∷ 4294967294 ∷ 0 ∷ []) (1 ∷ 0 ∷ 1 ∷ 0 ∷ []) (0 ∷ 0 ∷ 0 ∷ 1 ∷ [])
    (pieces
    (map (of_bits binary32)
    (0x40ff_fffe ∷ 0x4100_0000 ∷ 0x40ff_fffe ∷ 0x4180_0000 ∷ 0x4e6e_6b28 ∷ 0x40ff_fffe ∷ 0 ∷ 0x40ff_fffe ∷ 0x4100_0000 ∷ 0x4e6e_6b28 ∷ []))
    (7 ∷ 7 ∷ []))
unfolding computing frame_of frame_checks drawn_of placed_of backdrop_of sum_paths rows_sums rows_fit row_sums row_fits
a_frame = refl

-- room for one segment only: hand-out's 9, with the counts standing
pub no_slot : shot down 4 1
    ≡ out_of (Refused Stage.HandOut no_room_word 0 (running_of 1 2)) (pos 0 ∷ pos 0 ∷ pos 0 ∷ negsuc 0 ∷ []) (1 ∷ 0 ∷ 1 ∷ 0 ∷ []) (replicate 4 8) (0 ∷ 0 ∷ 0 ∷ 1 ∷ [])
    (empty 1)
unfolding computing frame_of frame_checks drawn_of placed_of backdrop_of sum_paths rows_sums rows_fit row_sums row_fits
no_slot = refl

-- a coordinate that is no number: counting's 6 at line 0, from cleared tiles
pub no_line : shot (of_bits binary32 0x7f80_0000 ∷ floats_of (8 ∷ 8 ∷ 24 ∷ [])) 4 2
    ≡ out_of (Refused Stage.Count coordinate 0 (running_of 0 0)) (replicate 4 (pos 0)) (replicate 4 0) (replicate 4 8) (0 ∷ 0 ∷ 0 ∷ 0 ∷ []) (empty 2)
unfolding computing frame_of frame_checks drawn_of placed_of backdrop_of sum_paths rows_sums rows_fit row_sums row_fits
no_line = refl

-- a tally too short: 1, and nothing changes
pub no_tally : shot down 3 2
    ≡ out_of (Refused Stage.Lent not_whole 0 (running_of 0 0)) (pos 5 ∷ negsuc 0 ∷ pos 0 ∷ pos 9 ∷ []) (3 ∷ 0 ∷ 4294967295 ∷ 7 ∷ []) (replicate 3 8) (0 ∷ 0 ∷ 0 ∷ 0 ∷ [])
    (empty 2)
unfolding computing frame_of frame_checks drawn_of placed_of backdrop_of sum_paths rows_sums rows_fit row_sums row_fits
no_tally = refl

-- a line just left of the box, which the walk takes into its first column: tiling's 12 at reference 0, with all before it standing
pub no_piece : shot (map (of_bits binary32) (0x8000_0008 ∷ 0x4080_0000 ∷ 0x8000_0008 ∷ 0x4140_0000 ∷ [])) 4 2
    ≡ out_of (Refused Stage.Tile crooked 0 (running_of 1 1)) (replicate 4 (pos 0)) (4294967295 ∷ 0 ∷ 0 ∷ 0 ∷ []) (1 ∷ 0 ∷ 0 ∷ 0 ∷ []) (0 ∷ 0 ∷ 0 ∷ 0 ∷ [])
    (empty 2)
unfolding computing frame_of frame_checks drawn_of placed_of backdrop_of sum_paths rows_sums rows_fit row_sums row_fits
no_piece = refl
