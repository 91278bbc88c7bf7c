-- What a list's commands make of a pixel is what the paths make of it, painted in order. Assumes nothing.
use mathlib.Core.Path.{◌≡◌, refl, ap, ◌∙◌}
use mathlib.Core.Bool.{Bool, true, false, cond}
use mathlib.Core.List.{List, [], ◌∷◌}
use Prim.Native.Nat.{ℕ, zero, suc, ◌-◌, ◌/◌, ◌%◌, ◌^◌, ◌≤◌}
use native.Mathlib.Omega.{arith}
use lib.Dec.{leb, ltb}
use lib.IntN.{ℤ, pos, negsuc}
use lib.ListN.{get_or}
use lib.Ieee.{Float}
use borrow.Author.Tests.{lt-ltb, le-ltb, leb-true}
use Rattle.util.specs.Constants as Number
use Rattle.lists.specs.Run.{act_all, act_all_append}
use Rattle.lists.specs.Sums.{from}
use Rattle.panel.specs.Paths.{path_at, path_count, tile_of}
use Rattle.panel.specs.Slots.{not32}
use Rattle.panel.specs.Verdict.{Fine}
use Rattle.panel.proofs.BoolLaws.{both}
use Rattle.panel.specs.Signed.{in_i32}
use Rattle.coverage.specs.Coverage.{pixel_of}
use Rattle.colours.specs.Colour as Colour
use Rattle.commands.specs.Moves.{count_of, Trace, end_of}
use Rattle.commands.specs.Pixel.{signed_of, even_odd_of, cover, paint, Point, point, point_of}
use Rattle.screen_tile.specs.Tile.{clear}
use Rattle.pairs.specs.Pairs.{Tables, colour_at, rule_at, in_box, covers, bits_of, on_tile, by_path, on_path, pairs_of, tile_pairs, fill_rule, cover_of, colour_of}
use Rattle.lay_pairs.specs.Layout.{fits, left_after}
use Rattle.pairs.specs.declared.Pair.{Pair}
use Rattle.pairs.specs.declared.Pair.TheVariants.{Fill, Solid}
use Rattle.list_theorems.specs.Painted.{paint_tile, paint_path, painted}
use Rattle.list_theorems.specs.Traced.{jump_then, pair_then, list_trace}
use Rattle.list_theorems.specs.Written.{AllI32}

-- ---- the list ends

jump_ends : (b : Bool) (t : Trace) → end_of (jump_then b t) ≡ end_of t
jump_ends true t = refl
jump_ends false t = refl

pub list_ends : (left : ℕ) (ps : List Pair) → end_of (list_trace left ps) ≡ Fine
unfolding list_trace
list_ends left [] = refl
list_ends left (p ∷ ps) = jump_ends (fits p left) (pair_then p (list_trace (left_after p left) ps)) ∙ list_ends (left_after p left) ps

-- ---- a pair's two commands over a pixel: what its area was does not count
module _ (segs : List Float) (k : ℕ) where
  pub paint_pair : Pair → List Float → List Float
  paint_pair p px = Colour.over_of (Colour.colour_of (colour_of p)) (cover (cover_of p) segs k Number.zero) px

  pair_paints : (p : Pair) (t : Trace) (a : Float) (px : List Float) → point_of segs k (pair_then p t) (point a px) ≡ point_of segs k t (point (cover (cover_of p) segs k a) (paint_pair p px))
  unfolding point_of cover paint paint_pair
  pair_paints (Fill count rule first backdrop colour) t a px = refl
  pair_paints (Solid colour) t a px = refl

  jump_keeps : (b : Bool) (t : Trace) (a : Float) (px : List Float) → point_of segs k (jump_then b t) (point a px) ≡ point_of segs k t (point a px)
  unfolding point_of cover paint
  jump_keeps true t a px = refl
  jump_keeps false t a px = refl

  pub list_paints : (ps : List Pair) (left : ℕ) (a : Float) (px : List Float) → (point_of segs k (list_trace left ps) (point a px)).colour ≡ act_all paint_pair ps px
  unfolding point_of list_trace
  list_paints [] left a px = refl
  list_paints (p ∷ ps) left a px =
      ap (λ (q : Point). q.colour) (jump_keeps (fits p left) (pair_then p (list_trace (left_after p left) ps)) a px ∙ pair_paints p (list_trace (left_after p left) ps) a px)
      ∙ list_paints ps (left_after p left) (cover (cover_of p) segs k a) (paint_pair p px)

-- ---- a backdrop's 32 bits read back
pub bits_back : (b : ℤ) → in_i32 b ≡ true → signed_of (bits_of b) ≡ b
unfolding signed_of
bits_back (pos n) e =
    let h : n ≤ 2147483647 = leb-true n 2147483647 (both true (leb n 2147483647) e).1 in
    rw (lt-ltb n (2 ^ 31) (omega arith))
bits_back (negsuc n) e =
    let h : n ≤ 2147483647 = leb-true n 2147483647 (both (leb n 2147483647) true e).0 in
    let m : 2 ^ 32 - 1 - (2 ^ 32 - 1 - n) ≡ n = omega arith in
    rw (le-ltb (2 ^ 32 - 1 - n) (2 ^ 31) (omega arith)) (ap negsuc m)

at_i32 : (bs : List ℤ) → AllI32 bs → (t : ℕ) → in_i32 (get_or bs t (pos 0)) ≡ true
at_i32 [] h t = refl
at_i32 (b ∷ bs) h zero = h.0
at_i32 (b ∷ bs) h (suc t) = at_i32 bs h.1 t

-- ---- what a path puts on a tile, over a pixel
module _ (segs : List Float) (k : ℕ) where
  fill_paints : (colour rule count stored : ℕ) (b : ℤ) (px : List Float) → in_i32 b ≡ true
      → paint_pair segs k (Fill count rule (not32 stored) (bits_of b) colour) px
      ≡ Colour.over_of (Colour.colour_of colour) (pixel_of segs (not32 stored) count (even_odd_of rule) b Number.zero Number.zero k) px
  unfolding paint_pair cover
  fill_paints colour rule count stored b px h =
      let n : count_of (fill_rule count rule) ≡ count = omega arith in
      let r : fill_rule count rule % 2 ≡ rule % 2 = omega arith in
      rw (n, r, bits_back b h)

  solid_paints : (colour : ℕ) (px : List Float) → paint_pair segs k (Solid colour) px ≡ Colour.over_of (Colour.colour_of colour) Number.one px
  unfolding paint_pair cover
  solid_paints colour px = refl

  tile_paints : (colour rule count stored : ℕ) (b : ℤ) (px : List Float) → in_i32 b ≡ true
      → act_all (paint_pair segs k) (on_tile colour rule count stored b) px ≡ paint_tile segs k colour rule count stored b px
  unfolding on_tile paint_tile
  tile_paints colour rule count stored b px h = go (ltb 0 count) (covers (even_odd_of rule) b)
    where
      go : (f c : Bool)
          → act_all (paint_pair segs k) (cond f (Fill count rule (not32 stored) (bits_of b) colour ∷ []) (cond c (Solid colour ∷ []) [])) px
          ≡ cond f (Colour.over_of (Colour.colour_of colour) (pixel_of segs (not32 stored) count (even_odd_of rule) b Number.zero Number.zero k) px)
          (cond c (Colour.over_of (Colour.colour_of colour) Number.one px) px)
      go true c = fill_paints colour rule count stored b px h
      go false true = solid_paints colour px
      go false false = refl

  module _ (s : Tables) (x y : ℕ) (fit : AllI32 s.backdrops) where
    path_paints : (p : ℕ) (px : List Float) → act_all (paint_pair segs k) (on_path s x y p) px ≡ paint_path s segs x y k p px
    unfolding on_path paint_path
    path_paints p px = go (in_box (path_at s.paths p) x y)
      where
        t : ℕ
        t = tile_of (path_at s.paths p) x y

        go : (b : Bool) → act_all (paint_pair segs k) (cond b (by_path s p t) []) px
            ≡ cond b (paint_tile segs k (colour_at s.paints p) (rule_at s.paints p) (get_or s.tally t 0) (get_or s.stored t 0) (get_or s.backdrops t (pos 0)) px) px
        go true = tile_paints (colour_at s.paints p) (rule_at s.paints p) (get_or s.tally t 0) (get_or s.stored t 0) (get_or s.backdrops t (pos 0)) px (at_i32 s.backdrops fit t)
        go false = refl

    paths_paint : (ps : List ℕ) (px : List Float) → act_all (paint_pair segs k) (pairs_of s x y ps) px ≡ act_all (paint_path s segs x y k) ps px
    paths_paint [] px = refl
    paths_paint (p ∷ ps) px =
        act_all_append (paint_pair segs k) (on_path s x y p) (pairs_of s x y ps) px
        ∙ ap (act_all (paint_pair segs k) (pairs_of s x y ps)) (path_paints p px)
        ∙ paths_paint ps (paint_path s segs x y k p px)

-- all of a tile's pairs
pub pairs_paint : (segs : List Float) (k : ℕ) (s : Tables) (cols t : ℕ) → AllI32 s.backdrops → act_all (paint_pair segs k) (tile_pairs s cols t) clear ≡ painted s segs (t % cols) (t / cols) k
unfolding tile_pairs painted
pairs_paint segs k s cols t fit = paths_paint segs k s (t % cols) (t / cols) fit (from 0 (path_count s.paths)) clear
