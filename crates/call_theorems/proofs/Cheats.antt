-- No cheat meets a promise: one law for all calls, and for each call an input that is not refused and changes what is lent, and one that is refused. Both are
-- computed. Assumes nothing.
use mathlib.Core.Path.{◌≡◌, refl, sym, ap, subst, ◌∙◌}
use mathlib.Core.Logic.{◌≢◌}
use mathlib.Core.Bool.{true, false, false≢true}
use mathlib.Core.List.{List, [], ◌∷◌, ◌++◌}
use Prim.Native.Nat.{ℕ}
use native.Mathlib.Omega.{arith}
use lib.IntN.{ℤ, pos, negsuc}
use lib.ListN.{get_or, replicate}
use lib.Ieee.{Float, nan, binary32, of_bits, is_nan}
use Rattle.panel.specs.Pieces.{Pieces, pieces}
use Rattle.panel.specs.Widths.{segment_floats}
use Rattle.util.specs.Constants as Number
use Rattle.lists.specs.Grid.{tab_from}
use Rattle.panel.specs.Paths.{boxed, stamped}
use Rattle.panel.specs.Refusals.{done_no, not_whole, no_room_word, no_such, bad_size, bad_file, off_tile, bad_text}
use Rattle.panel.specs.Kinds.{running_of}
use Rattle.panel.specs.Answer.{Answer, Done, Refused}
use Rattle.path_count.specs.Count.{CountMet}
use Rattle.path_count.specs.Counted.{Counted}
use Rattle.backdrop.specs.Backdrop.{row_sums, row_fits, rows_sums, rows_fit, sum_paths, backdrop_of, BackdropMet}
use Rattle.hand_out.specs.HandOut.{HandMet}
use Rattle.looks.specs.Look.{lent}
use Rattle.path_tiling.specs.Tiling.{TileMet}
use Rattle.sides.specs.Tile.{tile_width, tile_size}
use Rattle.coverage.specs.Coverage.{coverage_of}
use Rattle.coverage.specs.Ground.{straight_from}
use Rattle.coverage.specs.Fill.{fill_of, FillMet}
use Rattle.commands.specs.Numbers.{encode, end_no}
use Rattle.commands.specs.declared.steps.Act.TheVariants.{Solid, Color}
use Rattle.fine.specs.Fine.{FineMet}
use Rattle.frame.specs.Frame.{placed_of, drawn_of, checks_of, frame_of, FrameMet}
use Rattle.frame.specs.declared.kinds.Stage.TheVariants as Stage
use Rattle.frame.specs.Framed.{Framed}
use Rattle.pairs.specs.Pairs.{tables, on_tile, on_path, tile_pairs}
use Rattle.write_lists.specs.Lists.{call_answer, regions_of, answer_of, lists_of, write_lists_of, ListsMet}
use Rattle.ppm_write.specs.File.{digits_of, decimal, head_of, file_of}
use Rattle.ppm_write.specs.Write.{write_of, WriteMet}
use Rattle.ppm_write.specs.Written.{Written}
use Rattle.ppm_read.specs.Bytes.{kind_of}
use Rattle.ppm_read.specs.Header.{number_from, header_of}
use Rattle.ppm_read.specs.Read.{read_of, ReadMet}
use Rattle.ppm_read.specs.Answer as Read
use Rattle.svg.specs.Lines.{LinesMet}
use Rattle.svg.specs.Answer as Svg
use Rattle.svg.proofs.Exact.{one_lines}
use Rattle.svg.proofs.Examples.{drawing}
use Rattle.ranges.specs.Ranges.{cleared_of, copied_of}
use Rattle.new_lines.specs.Own.{own_walk, own_step}
use Rattle.kept_range.specs.Kept.{redrawn_of}
use Rattle.recount.specs.Recount.{asked_of, recounted_of}
use Rattle.pixel.specs.Coverage.{coverage_at_of}
use Rattle.pixel.specs.Colour.{under_list, colour_at_of}
use Rattle.groatpocket.specs.CallRecount.{GpRecountMet}
use Rattle.groatpocket.specs.CallPixel.{GpPixelAreaMet, GpPixelMet}
use Rattle.theorems.specs.Starred.{floats_of}
use Rattle.theorems.proofs.StarredTable.{computing}
use Rattle.theorems.proofs.OneAnswer.{one_count, one_backdrop, one_hand, one_tile, one_fill, one_fine}
use Rattle.theorems.proofs.Framing.{one_frame}
use Rattle.list_theorems.proofs.Written.{one_lists}
use Rattle.call_theorems.specs.Cheats.{Once, Shut, Refuses, RefusesCount, RefusesFrame, RefusesWrite, RefusesRead, RefusesSvg, RecountTold, recount_told, RefusesNo, RefusesRecount}
use Rattle.call_theorems.proofs.OneAnswer.{one_write, one_read, one_gp_recount, one_gp_pixel_area, one_gp_pixel}

-- ---- the law: an input whose answer a is no refusal and which leaves another content than before, and one whose answer b is a refusal

pub shut : (A M : Type 0) (No : A → Type 0) (P Q : A → M → Type 0) (before : M) (a b : A) (m n : M)
    → Once A M P → Once A M Q → P a m → Q b n → (No a → ⊥) → No b → m ≢ before → Shut A M No P Q before
shut A M No P Q before a b m n one two p q fine not new =
    record {
      refusing = λ x y r h. fine (subst No (one x a y m h p).0 r);
      constant = λ x y z h k. fine (subst No (sym (two x b z n k q).0 ∙ (one x a y m h p).0) not);
      nothing = λ x h. new (sym (one x a before m h p).1);
    }

-- two lists that differ at place k
pub apart : (l m : List ℕ) (k : ℕ) → get_or l k 0 ≢ get_or m k 0 → l ≢ m
apart l m k h e = h (ap (λ (x : List ℕ). get_or x k 0) e)

-- and two of floats of which only one has a NaN there
apart_nan : (l m : List Float) → is_nan (get_or l 0 nan) ≡ false → is_nan (get_or m 0 nan) ≡ true → l ≢ m
apart_nan l m f t e = false≢true (sym f ∙ ap (λ (x : List Float). is_nan (get_or x 0 nan)) e ∙ t)

-- ---- counting: (8,8)-(8,24) over the box 0,0,2,2; and a coordinate too few

abbrev CountMemory : Type 0
CountMemory = List ℤ × List ℕ × List ℕ

abbrev CountAt : (nos : List ℕ) (coords : List Float) → Counted → CountMemory → Type 0
CountAt nos coords a m =
    CountMet (running_of 0 0) 1 nos coords (boxed 0 0 2 2 0) (replicate 4 (pos 0)) (replicate 4 0) (replicate 4 0) a m.0 m.1 m.2

once_count : (nos : List ℕ) (coords : List Float) → Once Counted CountMemory (CountAt nos coords)
once_count nos coords a b m n p q =
    let e = one_count (running_of 0 0) 1 nos coords (boxed 0 0 2 2 0) (replicate 4 (pos 0)) (replicate 4 0) (replicate 4 0) a b m.0 n.0 m.1 n.1 m.2 n.2 p q in
    (e.0, λ i. (e.1 i, e.2 i, e.3 i))

pub count_shut : Shut Counted CountMemory RefusesCount (CountAt (0 ∷ []) (floats_of (8 ∷ 8 ∷ 8 ∷ 24 ∷ []))) (CountAt (0 ∷ []) (floats_of (8 ∷ 8 ∷ 8 ∷ [])))
    (replicate 4 (pos 0), replicate 4 0, replicate 4 0)
unfolding computing
count_shut =
    shut Counted CountMemory RefusesCount (CountAt (0 ∷ []) (floats_of (8 ∷ 8 ∷ 8 ∷ 24 ∷ []))) (CountAt (0 ∷ []) (floats_of (8 ∷ 8 ∷ 8 ∷ [])))
    (replicate 4 (pos 0), replicate 4 0, replicate 4 0)
    (Counted.Done (running_of 1 2)) (Counted.Refused not_whole 0 (running_of 0 0))
    (pos 0 ∷ pos 0 ∷ pos 0 ∷ negsuc 0 ∷ [], 1 ∷ 0 ∷ 1 ∷ 0 ∷ [], 0 ∷ 0 ∷ 0 ∷ 1 ∷ []) (replicate 4 (pos 0), replicate 4 0, replicate 4 0)
    (once_count (0 ∷ []) (floats_of (8 ∷ 8 ∷ 8 ∷ 24 ∷ []))) (once_count (0 ∷ []) (floats_of (8 ∷ 8 ∷ 8 ∷ [])))
    refl refl (λ h. h) tt (λ e. apart (1 ∷ 0 ∷ 1 ∷ 0 ∷ []) (replicate 4 0) 0 (λ z. omega arith) (ap (λ (m : CountMemory). m.1) e))

-- ---- backdrop: two tiles with 1 in each; and a path too short

abbrev BackdropAt : (paths : List ℕ) (bs : List ℤ) → Answer → List ℤ → Type 0
BackdropAt paths bs a m = BackdropMet paths bs a m

pub backdrop_shut : Shut Answer (List ℤ) Refuses (BackdropAt (boxed 0 0 2 1 0) (pos 1 ∷ pos 1 ∷ [])) (BackdropAt (0 ∷ []) []) (pos 1 ∷ pos 1 ∷ [])
unfolding computing backdrop_of sum_paths rows_sums rows_fit row_sums row_fits
backdrop_shut =
    shut Answer (List ℤ) Refuses (BackdropAt (boxed 0 0 2 1 0) (pos 1 ∷ pos 1 ∷ [])) (BackdropAt (0 ∷ []) []) (pos 1 ∷ pos 1 ∷ [])
    Done (Refused not_whole 0) (pos 1 ∷ pos 2 ∷ []) []
    (λ a b m n p q. one_backdrop (boxed 0 0 2 1 0) (pos 1 ∷ pos 1 ∷ []) a b m n p q) (λ a b m n p q. one_backdrop (0 ∷ []) [] a b m n p q)
    refl refl (λ h. h) tt (λ e. let z : ◌≡◌ {A = ℕ} 2 1 = cc in omega arith)

-- ---- hand-out: one tile with one reference; and no room for it

abbrev HandAt : (room : ℕ) (ns kept : List ℕ) → Answer → List ℕ × List ℕ → Type 0
HandAt room ns kept a m = HandMet room ns kept a m.0 m.1

once_hand : (room : ℕ) (ns kept : List ℕ) → Once Answer (List ℕ × List ℕ) (HandAt room ns kept)
once_hand room ns kept a b m n p q = let e = one_hand room ns kept a b m.0 n.0 m.1 n.1 p q in (e.0, λ i. (e.1 i, e.2 i))

pub hand_shut : Shut Answer (List ℕ × List ℕ) Refuses (HandAt 1 (1 ∷ []) (0 ∷ [])) (HandAt 0 (1 ∷ []) (0 ∷ [])) (1 ∷ [], 0 ∷ [])
unfolding computing
hand_shut =
    shut Answer (List ℕ × List ℕ) Refuses (HandAt 1 (1 ∷ []) (0 ∷ [])) (HandAt 0 (1 ∷ []) (0 ∷ [])) (1 ∷ [], 0 ∷ [])
    Done (Refused no_room_word 0) (4294967295 ∷ [], 1 ∷ []) (1 ∷ [], 0 ∷ []) (once_hand 1 (1 ∷ []) (0 ∷ [])) (once_hand 0 (1 ∷ []) (0 ∷ []))
    refl refl (λ h. h) tt (λ e. apart (1 ∷ []) (0 ∷ []) 0 (λ z. omega arith) (ap (λ (m : List ℕ × List ℕ). m.1) e))

-- ---- tiling: the first reference of (8,8)-(8,24), over NaNs; and a reference to a line that isn't there

abbrev one_slot : Pieces
one_slot = pieces (replicate segment_floats nan) (0 ∷ [])

abbrev TileAt : (refs : List ℕ) → Answer → Pieces → Type 0
TileAt refs a m = TileMet 0 1 (lent (0 ∷ []) (floats_of (8 ∷ 8 ∷ 8 ∷ 24 ∷ [])) (stamped 0 0 2 2 0 7) (4294967295 ∷ 0 ∷ 0 ∷ 0 ∷ []) refs) one_slot a m

once_tile : (refs : List ℕ) → Once Answer Pieces (TileAt refs)
once_tile refs a b m n p q =
    one_tile 0 1 (lent (0 ∷ []) (floats_of (8 ∷ 8 ∷ 8 ∷ 24 ∷ [])) (stamped 0 0 2 2 0 7) (4294967295 ∷ 0 ∷ 0 ∷ 0 ∷ []) refs) one_slot a b m n p q

abbrev piece : List Float
piece = of_bits binary32 0x40ff_fffe ∷ of_bits binary32 0x4100_0000 ∷ of_bits binary32 0x40ff_fffe ∷ of_bits binary32 0x4180_0000 ∷ of_bits binary32 0x4e6e_6b28 ∷ []

pub tile_shut : Shut Answer Pieces Refuses (TileAt (0 ∷ 0 ∷ [])) (TileAt (1 ∷ 0 ∷ [])) one_slot
unfolding computing
tile_shut =
    shut Answer Pieces Refuses (TileAt (0 ∷ 0 ∷ [])) (TileAt (1 ∷ 0 ∷ [])) one_slot
    Done (Refused no_such 0) (pieces piece (7 ∷ [])) one_slot (once_tile (0 ∷ 0 ∷ [])) (once_tile (1 ∷ 0 ∷ []))
    refl refl (λ h. h) tt (λ e. apart_nan piece (replicate segment_floats nan) refl refl (ap (λ (x : Pieces). x.segments) e))

-- ---- coverage: a tile with backdrop 1 and no segment, over NaNs; and an area of another size

abbrev FillAt : (area : List Float) → Answer → List Float → Type 0
FillAt area a m = FillMet [] 0 0 false (pos 1) Number.zero Number.zero area a m

once_fill : (area : List Float) → Once Answer (List Float) (FillAt area)
once_fill area a b m n p q = one_fill [] 0 0 false (pos 1) Number.zero Number.zero area a b m n p q

pub fill_shut : Shut Answer (List Float) Refuses (FillAt (replicate tile_size nan)) (FillAt []) (replicate tile_size nan)
unfolding computing straight_from fill_of coverage_of tab_from
fill_shut =
    shut Answer (List Float) Refuses (FillAt (replicate tile_size nan)) (FillAt []) (replicate tile_size nan)
    Done (Refused not_whole 0) (replicate tile_size Number.one) [] (once_fill (replicate tile_size nan)) (once_fill [])
    refl refl (λ h. h) tt (apart_nan (replicate tile_size Number.one) (replicate tile_size nan) refl refl)

-- ---- fine: SOLID and COLOR 204060ff on a screen of one tile; and a range past it

abbrev pub one_list : List ℕ
one_list = 0 ∷ encode Solid ++ encode (Color 0x2040_60ff) ++ (end_no ∷ [])

abbrev FineAt : (to : ℕ) → Answer → List ℕ → Type 0
FineAt to a m = FineMet one_list [] tile_width 1 1 0 to (replicate tile_size 0) a m

once_fine : (to : ℕ) → Once Answer (List ℕ) (FineAt to)
once_fine to a b m n p q = one_fine one_list [] tile_width 1 1 0 to (replicate tile_size 0) a b m n p q

pub fine_shut : Shut Answer (List ℕ) Refuses (FineAt 1) (FineAt 2) (replicate tile_size 0)
unfolding computing
fine_shut =
    shut Answer (List ℕ) Refuses (FineAt 1) (FineAt 2) (replicate tile_size 0)
    Done (Refused not_whole 0) (replicate tile_size 0xff60_4020) (replicate tile_size 0) (once_fine 1) (once_fine 2)
    refl refl (λ h. h) tt (apart (replicate tile_size 0xff60_4020) (replicate tile_size 0) 0 (λ z. omega arith))

-- ---- a frame: no line over one tile, which it clears; and a tally too short

abbrev no_slot : Pieces
no_slot = pieces [] []

abbrev FrameMemory : Type 0
FrameMemory = List ℤ × List ℕ × List ℕ × List ℕ × Pieces

abbrev FrameAt : (ks : List ℕ) → Framed → FrameMemory → Type 0
FrameAt ks a m = FrameMet [] [] (boxed 0 0 1 1 0) (pos 5 ∷ []) (3 ∷ []) ks [] no_slot a m.0 m.1 m.2 m.3 m.4

once_frame : (ks : List ℕ) → Once Framed FrameMemory (FrameAt ks)
once_frame ks a b m n p q =
    let e = one_frame [] [] (boxed 0 0 1 1 0) (pos 5 ∷ []) (3 ∷ []) ks [] no_slot a b m.0 n.0 m.1 n.1 m.2 n.2 m.3 n.3 m.4 n.4 p q in
    (e.0, λ i. (e.1 i, e.2 i, e.3 i, e.4 i, e.5 i))

pub frame_shut : Shut Framed FrameMemory RefusesFrame (FrameAt (8 ∷ [])) (FrameAt []) (pos 5 ∷ [], 3 ∷ [], 8 ∷ [], [], no_slot)
unfolding computing frame_of checks_of drawn_of placed_of backdrop_of sum_paths rows_sums rows_fit row_sums row_fits
frame_shut =
    shut Framed FrameMemory RefusesFrame (FrameAt (8 ∷ [])) (FrameAt []) (pos 5 ∷ [], 3 ∷ [], 8 ∷ [], [], no_slot)
    (Framed.Done (running_of 0 0)) (Framed.Refused Stage.Lent not_whole 0 (running_of 0 0))
    (pos 0 ∷ [], 0 ∷ [], 0 ∷ [], [], no_slot) (pos 5 ∷ [], 3 ∷ [], [], [], no_slot) (once_frame (8 ∷ [])) (once_frame [])
    refl refl (λ h. h) tt (λ e. apart (0 ∷ []) (3 ∷ []) 0 (λ z. omega arith) (ap (λ (m : FrameMemory). m.1) e))

-- ---- the lists: one screen tile and no path, whose list is END; and no word to write it in

abbrev ListsAt : (ws : List ℕ) → Answer → List ℕ → Type 0
ListsAt ws a m = ListsMet (tables [] [] [] [] []) 1 1 0 ws a m

once_list : (ws : List ℕ) → Once Answer (List ℕ) (ListsAt ws)
once_list ws a b m n p q = one_lists (tables [] [] [] [] []) 1 1 0 ws a b m n p q

pub lists_shut : Shut Answer (List ℕ) Refuses (ListsAt (replicate 64 9)) (ListsAt []) (replicate 64 9)
unfolding computing call_answer on_tile on_path tile_pairs regions_of answer_of lists_of write_lists_of
lists_shut =
    shut Answer (List ℕ) Refuses (ListsAt (replicate 64 9)) (ListsAt []) (replicate 64 9)
    Done (Refused no_room_word 0) (9 ∷ end_no ∷ replicate 62 9) [] (once_list (replicate 64 9)) (once_list [])
    refl refl (λ h. h) tt (apart (9 ∷ end_no ∷ replicate 62 9) (replicate 64 9) 1 (λ z. omega arith))

-- ---- a picture of one pixel, written and read; a width of 0, and no file

abbrev file : List ℕ
file = 80 ∷ 54 ∷ 10 ∷ 49 ∷ 32 ∷ 49 ∷ 10 ∷ 50 ∷ 53 ∷ 53 ∷ 10 ∷ 0x20 ∷ 0x40 ∷ 0x60 ∷ []

abbrev WriteAt : (w : ℕ) → Written → List ℕ → Type 0
WriteAt w a m = WriteMet (0xff60_4020 ∷ []) w 1 (replicate 14 9) a m

pub write_shut : Shut Written (List ℕ) RefusesWrite (WriteAt 1) (WriteAt 0) (replicate 14 9)
unfolding write_of file_of head_of decimal digits_of
write_shut =
    shut Written (List ℕ) RefusesWrite (WriteAt 1) (WriteAt 0) (replicate 14 9)
    (Written.Done 14) (Written.Refused bad_size) file (replicate 14 9)
    (λ a b m n p q. one_write (0xff60_4020 ∷ []) 1 1 (replicate 14 9) a b m n p q) (λ a b m n p q. one_write (0xff60_4020 ∷ []) 0 1 (replicate 14 9) a b m n p q)
    refl refl (λ h. h) tt (apart file (replicate 14 9) 0 (λ z. omega arith))

abbrev ReadAt : (f : List ℕ) → Read.Answer → List ℕ → Type 0
ReadAt f a m = ReadMet f (replicate 3 9) a m

pub read_shut : Shut Read.Answer (List ℕ) RefusesRead (ReadAt file) (ReadAt []) (replicate 3 9)
unfolding read_of header_of number_from kind_of
read_shut =
    shut Read.Answer (List ℕ) RefusesRead (ReadAt file) (ReadAt []) (replicate 3 9)
    (Read.Done 1 1) (Read.Refused bad_file) (0x20 ∷ 0x40 ∷ 0x60 ∷ []) (replicate 3 9)
    (λ a b m n p q. one_read file (replicate 3 9) a b m n p q) (λ a b m n p q. one_read [] (replicate 3 9) a b m n p q)
    refl refl (λ h. h) tt (apart (0x20 ∷ 0x40 ∷ 0x60 ∷ []) (replicate 3 9) 0 (λ z. omega arith))

-- ---- an outline: a closing alone after a move to 1, 2, which draws one line of no length, over NaNs; and a letter with no numbers

abbrev move_close : List ℕ
move_close = 77 ∷ 49 ∷ 32 ∷ 50 ∷ 90 ∷ []

abbrev SvgMemory : Type 0
SvgMemory = List ℕ × List Float

abbrev SvgAt : (text : List ℕ) → Svg.Answer → SvgMemory → Type 0
SvgAt text a m = LinesMet text 0 3 (9 ∷ []) (replicate 4 nan) a m.0 m.1

once_svg : (text : List ℕ) → Once Svg.Answer SvgMemory (SvgAt text)
once_svg text a b m n p q = let e = one_lines text 0 3 (9 ∷ []) (replicate 4 nan) a b m.0 n.0 m.1 n.1 p q in (e.0, λ i. (e.1 i, e.2 i))

abbrev no_length : List Float
no_length = floats_of (1 ∷ 2 ∷ 1 ∷ 2 ∷ [])

pub svg_shut : Shut Svg.Answer SvgMemory RefusesSvg (SvgAt move_close) (SvgAt (77 ∷ [])) (9 ∷ [], replicate 4 nan)
unfolding computing drawing
svg_shut =
    shut Svg.Answer SvgMemory RefusesSvg (SvgAt move_close) (SvgAt (77 ∷ [])) (9 ∷ [], replicate 4 nan)
    (Svg.Done 1) (Svg.Refused bad_text 1) (3 ∷ [], no_length) (9 ∷ [], replicate 4 nan) (once_svg move_close) (once_svg (77 ∷ []))
    refl refl (λ h. h) tt (λ e. apart (3 ∷ []) (9 ∷ []) 0 (λ z. omega arith) (ap (λ (m : SvgMemory). m.0) e))

-- ---- a recount, as a caller sees it: (8,8)-(8,24) as line 7 into the box 0,0,2,2, whose tiles held 5 and 3; and a path that isn't there

abbrev RecountMemory : Type 0
RecountMemory = List ℤ × List ℕ × List ℕ × List ℤ × List ℕ

abbrev before : RecountMemory
before = (replicate 4 (pos 5), replicate 4 3, replicate 4 0, replicate 4 (pos 9), replicate 4 9)

abbrev RecountAt : (p : ℕ) → RecountTold → RecountMemory → Type 0
RecountAt p a m =
    GpRecountMet p (7 ∷ []) (0 ∷ []) (floats_of (8 ∷ 8 ∷ 8 ∷ 24 ∷ [])) (boxed 0 0 2 2 0) before.0 before.1 before.2 before.3 before.4
    a.number a.at a.made m.0 m.1 m.2 m.3 m.4

once_recount : (p : ℕ) → Once RecountTold RecountMemory (RecountAt p)
once_recount p a b m n h k =
    let e = one_gp_recount p (7 ∷ []) (0 ∷ []) (floats_of (8 ∷ 8 ∷ 8 ∷ 24 ∷ [])) (boxed 0 0 2 2 0) before.0 before.1 before.2 before.3 before.4
    a.number b.number a.at b.at a.made b.made m.0 n.0 m.1 n.1 m.2 n.2 m.3 n.3 m.4 n.4 h k in
    ((λ i. record { number = e.0 i; at = e.1 i; made = e.2 i }), λ i. (e.3 i, e.4 i, e.5 i, e.6 i, e.7 i))

pub recount_shut : Shut RecountTold RecountMemory RefusesRecount (RecountAt 0) (RecountAt 1) before
unfolding computing cleared_of copied_of own_walk own_step redrawn_of asked_of recounted_of
recount_shut =
    shut RecountTold RecountMemory RefusesRecount (RecountAt 0) (RecountAt 1) before
    (recount_told done_no 0 2) (recount_told no_such 0 0)
    (pos 0 ∷ pos 0 ∷ pos 0 ∷ negsuc 0 ∷ [], 1 ∷ 0 ∷ 1 ∷ 0 ∷ [], 7 ∷ 0 ∷ 7 ∷ 1 ∷ [], replicate 4 (pos 5), replicate 4 3) before
    (once_recount 0) (once_recount 1)
    refl refl (λ h. h refl) (λ e. omega arith) (λ e. apart (1 ∷ 0 ∷ 1 ∷ 0 ∷ []) (replicate 4 3) 0 (λ z. omega arith) (ap (λ (m : RecountMemory). m.1) e))

-- ---- one pixel's coverage: a tile with backdrop 1 and no segment, over a NaN; and column 16

abbrev PixelAreaAt : (column : ℕ) → ℕ → Float → Type 0
PixelAreaAt column a m = GpPixelAreaMet [] 0 0 0 (pos 1) Number.zero Number.zero column 3 nan a m

pub pixel_area_shut : Shut ℕ Float RefusesNo (PixelAreaAt 5) (PixelAreaAt tile_width) nan
unfolding computing straight_from coverage_at_of
pixel_area_shut =
    shut ℕ Float RefusesNo (PixelAreaAt 5) (PixelAreaAt tile_width) nan
    done_no off_tile Number.one nan
    (λ a b m n p q. one_gp_pixel_area [] 0 0 0 (pos 1) Number.zero Number.zero 5 3 nan a b m n p q)
    (λ a b m n p q. one_gp_pixel_area [] 0 0 0 (pos 1) Number.zero Number.zero tile_width 3 nan a b m n p q)
    refl refl (λ h. h refl) (λ e. omega arith) (λ e. apart_nan (Number.one ∷ []) (nan ∷ []) refl refl (ap (λ (a : Float). a ∷ []) e))

-- ---- one pixel under a list: SOLID and COLOR 204060ff, over 0; and column 16

abbrev PixelAt : (column : ℕ) → ℕ → ℕ → Type 0
PixelAt column a m = GpPixelMet one_list [] 0 column 3 0 a m

pub pixel_shut : Shut ℕ ℕ RefusesNo (PixelAt 5) (PixelAt tile_width) 0
unfolding computing under_list colour_at_of
pixel_shut =
    shut ℕ ℕ RefusesNo (PixelAt 5) (PixelAt tile_width) 0
    done_no off_tile 0xff60_4020 0
    (λ a b m n p q. one_gp_pixel one_list [] 0 5 3 0 a b m n p q) (λ a b m n p q. one_gp_pixel one_list [] 0 tile_width 3 0 a b m n p q)
    refl refl (λ h. h refl) (λ e. omega arith) (λ e. omega arith)
