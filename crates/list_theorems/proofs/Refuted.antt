-- What the theorems on lists don't say, refuted: statements near theirs that are false, each shown so by an instance. Assumes nothing.
use mathlib.Core.Path.{◌≡◌, refl, sym, ap, subst, ◌∙◌}
use mathlib.Core.Logic.{◌≢◌}
use mathlib.Core.Bool.{cond}
use mathlib.Core.List.{List, [], ◌∷◌, ◌++◌, reverse}
use Prim.Native.Nat.{ℕ, suc, ◌+◌, ◌*◌, ◌/◌, ◌%◌, ◌≤◌, ◌<◌}
use native.Mathlib.Omega.{arith}
use lib.IntN.{pos}
use lib.ListN.{length, get_or, replicate}
use lib.Ieee.{Float, add, sub, mul, div, neg, le, lt, eq, ne, of_int, of_bits, to_signed, to_unsigned, is_nan, round}
use Rattle.float32.specs.Meaning.{floor_of, ceil_of, round_of, abs_of, min_of, max_of, clamp_of, signed, sign_of}
use Rattle.util.specs.Constants.{zero}
use Rattle.lists.specs.Grid.{map_from}
use Rattle.lists.specs.Run.{act_all}
use Rattle.lists.specs.Sums.{from}
use Rattle.panel.specs.Limits.{most_commands, edge_most}
use Rattle.panel.specs.Refusals.{too_long_word, past_end}
use Rattle.panel.specs.Widths.{segment_floats}
use Rattle.util.specs.Vec.{new_of}
use Rattle.panel.specs.Segments.{InTile, segment_at, Straight}
use Rattle.panel.specs.Paths.{boxed, path_at, path_count, tile_of, paths_from, paths_answer}
use Rattle.panel.specs.Slots.{not32}
use Rattle.panel.specs.Answer.{Done}
use Rattle.panel.specs.Verdict.{Verdict, Fine, Against}
use Rattle.sides.specs.Tile.{tile_width, tile_size}
use Rattle.coverage.specs.Coverage.{area_after, finish_of, sum_of, pixel_of}
use Rattle.colours.specs.Colour.{channel_of, colour_of, over_of, byte_of, pack_of}
use Rattle.commands.specs.Numbers.{end_no, tile_words}
use Rattle.commands.specs.Pixel.{cover, paint, point_of}
use Rattle.commands.specs.Moves.{Trace, ends, does, op_of, fill_move, whole_move, move_of, trace_of}
use Rattle.screen_rows.specs.Rows.{put_tile}
use Rattle.screen_tile.specs.Tile.{clear, tile_trace, ends_at, colour_at as shown_at, tile_pixels}
use Rattle.fine.specs.Fine.{Shown, shown, tile_step, tiles_of, fine_of}
use Rattle.pairs.specs.Pairs.{Tables, tables, colour_at, in_box, on_tile, on_path, tile_pairs}
use Rattle.lay_pairs.specs.Layout.{pair_words, commands_of}
use Rattle.write_lists.specs.Lists.{call_answer, regions_of, answer_of, lists_of, write_lists_of}
use Rattle.pairs.specs.declared.Pair.{Pair}
use Rattle.pairs.specs.declared.Pair.TheVariants.{Fill, Solid}
use Rattle.list_theorems.specs.Painted.{paint_tile, paint_path, screen_of}
use Rattle.list_theorems.specs.Traced.{pair_then}
use Rattle.list_theorems.specs.Refusing.{FirstLong}
use Rattle.list_theorems.specs.Written.{Wrote, Fills, AllI32, Holds}
use Rattle.list_theorems.proofs.Instance.{region, boxes, times, full, over, over_words, over_wrote}
use Rattle.list_theorems.proofs.Exact.{lists_exact}

-- names all that an instance computes with
unfoldable computing : ℕ
unfolding edge_most add sub mul div neg le lt eq ne of_int of_bits to_signed to_unsigned is_nan round floor_of ceil_of round_of abs_of min_of max_of clamp_of signed sign_of
    map_from path_at paths_from paths_answer area_after finish_of sum_of pixel_of channel_of colour_of over_of byte_of pack_of cover paint point_of op_of fill_move whole_move
    move_of trace_of put_tile tile_trace shown_at tile_pixels tile_step tiles_of fine_of on_tile on_path tile_pairs call_answer regions_of answer_of lists_of write_lists_of
    paint_tile paint_path screen_of
computing = 0

-- ---- JUMPs left out of a list's commands

abbrev no_jumps : List Pair → Trace
no_jumps [] = ends Fine
no_jumps (p ∷ ps) = pair_then p (no_jumps ps)

abbrev commands_in : Trace → ℕ
commands_in (ends v) = 0
commands_in (does a t) = suc (commands_in t)

abbrev NoJumps : Type 0
NoJumps =
    (s : Tables) (cols rows room : ℕ) (ws words : List ℕ) (segs : List Float) → Wrote s cols rows room ws words → Fills room segs
    → (t : ℕ) → t < cols * rows → tile_trace words segs t ≡ no_jumps (tile_pairs s cols t)

with_jump : commands_in (tile_trace over_words [] 0) ≡ 2 * suc full + 1
unfolding computing boxes times over over_words
with_jump = refl

without_jump : commands_in (no_jumps (tile_pairs over 1 0)) ≡ 2 * suc full
unfolding computing boxes times over over_words
without_jump = refl

pub jumps_are_there : NoJumps → ⊥
jumps_are_there f =
    let e = f over 1 1 0 (replicate (2 * tile_words) 9) over_words [] over_wrote (record { whole = refl; enough = omega arith; straight = λ k h. absurd (omega arith) }) 0 (omega arith) in
    let z : ◌≡◌ {A = ℕ} (2 * suc full + 1) (2 * suc full) = sym with_jump ∙ ap commands_in e ∙ without_jump in
    omega arith

-- ---- painting that takes any backdrop but 0 to cover, under even-odd too; and the paths in reverse order

abbrev LikeThis : (Tables → List Float → (x y k : ℕ) → List Float) → Type 0
LikeThis painted_as =
    (s : Tables) (cols rows room : ℕ) (ws words : List ℕ) (segs : List Float) → Wrote s cols rows room ws words → Fills room segs → AllI32 s.backdrops
    → (width : ℕ) (pixels : List ℕ) → Holds width cols rows pixels
    → fine_of words segs width cols rows 0 (cols * rows) pixels ≡ shown Done (screen_of (painted_as s segs) width cols rows pixels)

first_pixel : Shown → ℕ
first_pixel o = get_or o.pixels 0 0

unfoldable pub not_zero : Tables → List Float → (x y k : ℕ) → List Float
not_zero s segs x y k =
    act_all
    (λ p px.
    let t = tile_of (path_at s.paths p) x y in
    cond (in_box (path_at s.paths p) x y)
    (paint_tile segs k (colour_at s.paints p) 0 (get_or s.tally t 0) (get_or s.stored t 0) (get_or s.backdrops t (pos 0)) px)
    px)
    (from 0 (path_count s.paths)) clear

unfoldable pub last_first : Tables → List Float → (x y k : ℕ) → List Float
last_first s segs x y k = act_all (paint_path s segs x y k) (reverse (from 0 (path_count s.paths))) clear

-- an even-odd path whose backdrop is 2: its list is END
abbrev even : Tables
even = tables (boxed 0 0 1 1 0) (0x2040_60ff ∷ 1 ∷ []) (pos 2 ∷ []) (0 ∷ []) (0 ∷ [])

abbrev even_words : List ℕ
even_words = 9 ∷ end_no ∷ replicate 62 9

even_wrote : Wrote even 1 1 0 (replicate 64 9) even_words
unfolding computing
even_wrote = refl

even_shows : first_pixel (fine_of even_words [] tile_width 1 1 0 1 (replicate tile_size 0)) ≡ 0
unfolding computing first_pixel
even_shows = refl

even_not : first_pixel (shown Done (screen_of (not_zero even []) tile_width 1 1 (replicate tile_size 0))) ≡ 0xff60_4020
unfolding computing first_pixel not_zero
even_not = refl

pub odd_is_odd : LikeThis not_zero → ⊥
odd_is_odd f =
    let e = f even 1 1 0 (replicate 64 9) even_words [] even_wrote (record { whole = refl; enough = omega arith; straight = λ k h. absurd (omega arith) }) (refl, tt) tile_width (replicate tile_size 0)
    (record { wide = omega arith; high = omega arith }) in
    let z : ◌≡◌ {A = ℕ} 0 0xff60_4020 = sym even_shows ∙ ap first_pixel e ∙ even_not in
    omega arith

-- two paths over one tile, the second of another colour
abbrev pair : Tables
pair = tables (boxed 0 0 1 1 0 ++ boxed 0 0 1 1 1) (0x2040_60ff ∷ 0 ∷ 0x6040_20ff ∷ 0 ∷ []) (pos 1 ∷ pos 1 ∷ []) (0 ∷ 0 ∷ []) (0 ∷ 0 ∷ [])

abbrev pair_words_lem : List ℕ
pair_words_lem = region (9 ∷ pair_words (Solid 0x2040_60ff) ++ pair_words (Solid 0x6040_20ff) ++ (end_no ∷ []))

pair_wrote : Wrote pair 1 1 0 (replicate 64 9) pair_words_lem
unfolding computing
pair_wrote = refl

pair_shows : first_pixel (fine_of pair_words_lem [] tile_width 1 1 0 1 (replicate tile_size 0)) ≡ 0xff20_4060
unfolding computing first_pixel
pair_shows = refl

pair_not : first_pixel (shown Done (screen_of (last_first pair []) tile_width 1 1 (replicate tile_size 0))) ≡ 0xff60_4020
unfolding computing first_pixel last_first
pair_not = refl

pub order_counts : LikeThis last_first → ⊥
order_counts f =
    let e = f pair 1 1 0 (replicate 64 9) pair_words_lem [] pair_wrote (record { whole = refl; enough = omega arith; straight = λ k h. absurd (omega arith) })
    (refl, (refl, tt)) tile_width (replicate tile_size 0)
    (record { wide = omega arith; high = omega arith }) in
    let z : ◌≡◌ {A = ℕ} 0xff20_4060 0xff60_4020 = sym pair_shows ∙ ap first_pixel e ∙ pair_not in
    omega arith

-- ---- a room told that is held against floats, and not against segments: 13 would come, though a fill takes all that are lent

abbrev RoomInFloats : Type 0
RoomInFloats =
    (s : Tables) (cols rows room : ℕ) (ws words : List ℕ) (segs : List Float) → Wrote s cols rows room ws words → length segs % segment_floats ≡ 0 → room ≤ length segs
    → ((k : ℕ) → k < length segs / segment_floats → Straight (segment_at segs k)) → (t : ℕ) → t < cols * rows → ends_at words segs t ≡ Fine

-- a tile with two slots, and one segment lent
abbrev filled : Tables
filled = tables (boxed 0 0 1 1 0) (0x2040_60ff ∷ 0 ∷ []) (pos 0 ∷ []) (0xffff_ffff ∷ []) (2 ∷ [])

abbrev filled_words : List ℕ
filled_words = region (9 ∷ pair_words (Fill 2 0 0 0 0x2040_60ff) ++ (end_no ∷ []))

filled_wrote : Wrote filled 1 1 2 (replicate 64 9) filled_words
unfolding computing
filled_wrote = refl

filled_ends : ends_at filled_words (replicate 5 zero) 0 ≡ Against past_end
unfolding computing
filled_ends = refl

zero_straight : Straight (segment_at (replicate 5 zero) 0)
unfolding segment_at le of_bits
zero_straight =
    let end : InTile (new_of zero zero) = record { left = refl; right = refl; top = refl; bottom = refl } in
    record { from_end = end; to_end = end; edge = refl }

only : (k : ℕ) → k < length (replicate 5 zero) / segment_floats → 0 ≡ k
only k h = omega arith

is_fine : Verdict → ℕ
is_fine Fine = 1
is_fine (Against n) = 0

pub room_in_segments : RoomInFloats → ⊥
unfolding is_fine
room_in_segments f =
    let e = f filled 1 1 2 (replicate 64 9) filled_words (replicate 5 zero) filled_wrote refl (omega arith)
    (λ k h. subst (λ (i : ℕ). Straight (segment_at (replicate 5 zero) i)) (only k h) zero_straight) 0 (omega arith) in
    let z : ◌≡◌ {A = ℕ} 0 1 = ap is_fine (sym filled_ends ∙ e) in
    omega arith

-- ---- as many commands as may be aren't too many: the tile whose list has 4,096 is not refused with 15

pub limit_passes : (s : Tables) (cols rows room : ℕ) (ws : List ℕ) → call_answer s cols rows ≡ Done → (t : ℕ) → commands_of (tile_pairs s cols t) ≡ most_commands
    → (write_lists_of s cols rows room ws).paper ≢ too_long_word ∷ t ∷ []
limit_passes s cols rows room ws ok t e p =
    let h : FirstLong s cols rows t = ((lists_exact s cols rows room ws ok).fifteen t).0 p in
    let l = h.long in
    omega arith

-- and there is such a list: 20 pairs of FILL and COLOR, 1,978 of SOLID and COLOR, and 100 JUMPs
pub limit_is_met : commands_of (replicate 20 (Fill 1 0 (not32 0) 1 0) ++ replicate 1978 (Solid 0)) ≡ most_commands
limit_is_met = refl
