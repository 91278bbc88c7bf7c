-- The premises can be met: a frame of one line, its lists and fine, computed. And statements near the theorems' that are false, each refuted by an instance: that
-- lines of one path may change places; and that a tile's pixels are told by the lines of paths whose boxes don't have it. Assumes nothing.
use mathlib.Core.Path.{◌≡◌, refl, sym, ap, ◌∙◌}
use mathlib.Core.Bool.{true, false, true≢false}
use mathlib.Core.List.{List, [], ◌∷◌, ◌++◌, map}
use Prim.Native.Nat.{ℕ, ◌*◌, ◌<◌}
use native.Mathlib.Omega.{arith}
use lib.IntN.{ℤ, pos, negsuc}
use lib.ListN.{get_or, replicate}
use lib.Ieee.{Float, binary32, nan, of_bits, eq, sum}
use Rattle.float32.specs.Meaning.{signum_of}
use Rattle.panel.specs.Widths.{segment_floats}
use Rattle.panel.specs.Paths.{boxed, stamped, path_at, path_count}
use Rattle.panel.specs.Pieces.{Pieces, pieces}
use Rattle.panel.specs.Kinds.{running_of}
use Rattle.one_row.specs.Row.{way_of, row_of, reach_of, added_of, slanted, edged, step_row, step_way, step_segment}
use Rattle.frame.specs.Frame.{out_of, placed_of, drawn_of, checks_of as frame_checks, frame_of}
use Rattle.frame.specs.Framed.{Done}
use Rattle.backdrop.specs.Backdrop.{row_sums, row_fits, rows_sums, rows_fit, sum_paths, backdrop_of}
use Rattle.commands.specs.Numbers.{tile_words}
use Rattle.pairs.specs.Pairs.{Tables, tables, in_box, on_tile, on_path, tile_pairs}
use Rattle.lay_pairs.specs.Layout.{written}
use Rattle.write_lists.specs.Lists.{call_answer, regions_of, answer_of, lists_of, write_lists_of}
use Rattle.theorems.specs.Drawn.{Drawn, drawn, walk_of, of_path}
use Rattle.theorems.specs.Starred.{floats_of}
use Rattle.theorems.proofs.StarredTable.{computing}
use Rattle.list_theorems.specs.Written.{Wrote}
use Rattle.picture.specs.Picture.{step_pieces, step_marks, pieces_of, winding_of, cover_of, path_over, pixel_of}
use Rattle.picture.specs.Shown.{Shows}
use Rattle.picture.proofs.Pictures.{frame_shows}

-- ---- one line, (8,8)-(8,24), of a beam stamped 7, over two tiles by two

abbrev down : List Float
down = floats_of (8 ∷ 8 ∷ 8 ∷ 24 ∷ [])

abbrev paths : List ℕ
paths = stamped 0 0 2 2 0 7

abbrev paints : List ℕ
paints = 0xff00_00ff ∷ 0 ∷ []

abbrev slots : Pieces
slots = pieces (replicate (2 * segment_floats) (of_bits binary32 0)) (0 ∷ 0 ∷ [])

abbrev backdrops : List ℤ
backdrops = pos 0 ∷ pos 0 ∷ pos 0 ∷ negsuc 0 ∷ []

abbrev stored : List ℕ
stored = 4294967295 ∷ 0 ∷ 4294967294 ∷ 0 ∷ []

abbrev tally : List ℕ
tally = 1 ∷ 0 ∷ 1 ∷ 0 ∷ []

abbrev drawn_pieces : Pieces
drawn_pieces =
    pieces
    (map (of_bits binary32)
    (0x40ff_fffe ∷ 0x4100_0000 ∷ 0x40ff_fffe ∷ 0x4180_0000 ∷ 0x4e6e_6b28 ∷ 0x40ff_fffe ∷ 0 ∷ 0x40ff_fffe ∷ 0x4100_0000 ∷ 0x4e6e_6b28 ∷ []))
    (7 ∷ 7 ∷ [])

framed : frame_of (0 ∷ []) down paths (pos 5 ∷ negsuc 0 ∷ pos 0 ∷ pos 9 ∷ []) (3 ∷ 0 ∷ 1 ∷ 7 ∷ []) (8 ∷ 8 ∷ 8 ∷ 8 ∷ []) (0 ∷ 0 ∷ 0 ∷ 0 ∷ []) slots
    ≡ out_of (Done (running_of 1 2)) backdrops stored tally (0 ∷ 0 ∷ 0 ∷ 1 ∷ []) drawn_pieces
unfolding computing frame_of frame_checks drawn_of placed_of backdrop_of sum_paths rows_sums rows_fit row_sums row_fits
framed = refl

abbrev lent_words : List ℕ
lent_words = replicate (4 * tile_words) 9

abbrev read : Tables
read = tables paths paints backdrops stored tally

wrote : Wrote read 2 2 2 lent_words (written (lists_of read 2 2) lent_words)
unfolding computing on_tile on_path tile_pairs call_answer regions_of answer_of lists_of write_lists_of
wrote = refl

pub an_instance : Shows paths paints (drawn (0 ∷ []) down 1) 2 2 (written (lists_of read 2 2) lent_words) drawn_pieces.segments
an_instance =
    frame_shows (0 ∷ []) down paths (pos 5 ∷ negsuc 0 ∷ pos 0 ∷ pos 9 ∷ []) (3 ∷ 0 ∷ 1 ∷ 7 ∷ []) (8 ∷ 8 ∷ 8 ∷ 8 ∷ []) (0 ∷ 0 ∷ 0 ∷ 0 ∷ []) slots
    (running_of 1 2) backdrops stored tally (0 ∷ 0 ∷ 0 ∷ 1 ∷ []) drawn_pieces framed 2 (omega arith) paints 2 2 lent_words (written (lists_of read 2 2) lent_words)
    (refl, (refl, (refl, (refl, tt)))) wrote

-- ---- what is not so

-- a line of path 0 from (4, 0) straight down to a height, by its bits
abbrev fall : ℕ → Drawn
fall h =
    record {
      path = 0;
      ends = record { p0 = record { x = of_bits binary32 0x4080_0000; y = of_bits binary32 0 }; p1 = record { x = of_bits binary32 0x4080_0000; y = of_bits binary32 h } };
    }

-- the last colour float of a pixel under one black path over one tile: with no colour below it, the coverage
abbrev cover_at : List Drawn → ℕ → Float
cover_at lines k = get_or (pixel_of (boxed 0 0 1 1 0) (0x0000_00ff ∷ 0 ∷ []) lines 0 0 k) 3 nan

-- lines of one path in another order: an area is a sum of floats, and each sum is rounded
abbrev AnyOrderOfOne : Type 0
AnyOrderOfOne = (paths paints : List ℕ) (d : Drawn) (ds : List Drawn) (x y k : ℕ) → pixel_of paths paints (d ∷ ds) x y k ≡ pixel_of paths paints (ds ++ (d ∷ [])) x y k

abbrev half : Drawn
half = fall 0x3f00_0000

abbrev bit : Drawn
bit = fall 0x32c0_0000

first_half : eq (cover_at (half ∷ bit ∷ bit ∷ []) 12) (of_bits binary32 0x3f00_0000) ≡ true
unfolding computing sum signum_of way_of row_of reach_of added_of slanted edged step_row step_way step_segment walk_of step_pieces step_marks pieces_of winding_of cover_of path_over pixel_of
first_half = refl

last_half : eq (cover_at (bit ∷ bit ∷ half ∷ []) 12) (of_bits binary32 0x3f00_0000) ≡ false
unfolding computing sum signum_of way_of row_of reach_of added_of slanted edged step_row step_way step_segment walk_of step_pieces step_marks pieces_of winding_of cover_of path_over pixel_of
last_half = refl

pub order_of_one : AnyOrderOfOne → ⊥
order_of_one f =
    true≢false (sym first_half ∙ ap (λ (px : List Float). eq (get_or px 3 nan) (of_bits binary32 0x3f00_0000)) (f (boxed 0 0 1 1 0) (0x0000_00ff ∷ 0 ∷ []) half (bit ∷ bit ∷ []) 0 0 12) ∙ last_half)

-- a path whose box has the tile, and whose lines differ
abbrev ByOthers : Type 0
ByOthers =
    (paths paints : List ℕ) (ds es : List Drawn) (x y : ℕ) → ((q : ℕ) → q < path_count paths → in_box (path_at paths q) x y ≡ false → of_path q ds ≡ of_path q es)
    → (k : ℕ) → pixel_of paths paints ds x y k ≡ pixel_of paths paints es x y k

none_there : eq (cover_at [] 12) (of_bits binary32 0x3f00_0000) ≡ false
unfolding computing walk_of step_pieces step_marks pieces_of winding_of cover_of path_over pixel_of
none_there = refl

only_path : (q : ℕ) → q < path_count (boxed 0 0 1 1 0) → in_box (path_at (boxed 0 0 1 1 0) q) 0 0 ≡ false → of_path q (half ∷ bit ∷ bit ∷ []) ≡ of_path q []
unfolding computing
only_path q h e = let z : 0 ≡ q = omega arith in absurd (true≢false (rw (← z) at e))

pub by_others : ByOthers → ⊥
by_others f =
    true≢false (sym first_half ∙ ap (λ (px : List Float). eq (get_or px 3 nan) (of_bits binary32 0x3f00_0000))
    (f (boxed 0 0 1 1 0) (0x0000_00ff ∷ 0 ∷ []) (half ∷ bit ∷ bit ∷ []) [] 0 0 only_path 12) ∙ none_there)
