-- The last colour laid over a tile's rows as they are packed: over a flat row's one colour, or over each pixel's own. Assumes nothing.
use mathlib.Core.Path.{◌≡◌, sym, ap, subst, ◌∙◌}
use mathlib.Core.Bool.{Bool, true, false}
use mathlib.Core.List.{List, []}
use Prim.Native.Nat.{ℕ, ◌+◌, ◌-◌, ◌*◌, ◌/◌, ◌≤◌, ◌<◌}
use native.Mathlib.Omega.{arith}
use lib.ListN.{length, get_or}
use lib.Ieee.{Float, nan}
use Rattle.lists.specs.Grid.{mapi, within}
use Rattle.lists.specs.GridLaws.{get_d_mapi, within_cong}
use Rattle.sides.specs.Tile.{tile_width, tile_height, tile_size, row_start}
use Rattle.colours.specs.Colour.{over_of, composite_of, pack_of}
use Rattle.colours.specs.Layer.{each, spread, meant, Level}
use Rattle.colours.proofs.FlatLaws.{meant_length, of_first, of_own}
use Rattle.screen_rows.specs.Rows.{row_at, place_of, packed, from_list, one_word}
use Rattle.last_colour.specs.Last.{from_one, from_each}
use Rattle.screen_rows.proofs.Places.{place_in_row}
use Rattle.screen_rows.proofs.Flats.{once, meant_at}

-- a row's words by two ways of telling its colours
row_words : (f g : ℕ → List Float) (w tx ty y : ℕ) (l m : List ℕ) → y < tile_height → tile_width * tx + tile_width ≤ w
    → ((k : ℕ) → k < tile_size → k / tile_width ≡ y → f k ≡ g k)
    → m ≡ mapi (within (row_at w tx ty y) (row_at w tx ty y + tile_width) (packed f w)) l → m ≡ mapi (within (row_at w tx ty y) (row_at w tx ty y + tile_width) (packed g w)) l
row_words f g w tx ty y l m hy hw e h = h ∙ within_cong (packed f w) (packed g w) R (R + tile_width) 0 l (λ p old lo hi. ap pack_of (at p lo hi))
  where
    R : ℕ
    R = row_at w tx ty y

    at : (p : ℕ) → R ≤ p → p < R + tile_width → f (place_of w p) ≡ g (place_of w p)
    at p lo hi =
        let x = p - R in
        let hx : x < tile_width = omega (arith, lo, hi) in
        let q : R + x ≡ p = omega (arith, lo) in
        let k : tile_width * y + x ≡ place_of w p = sym (place_in_row w tx ty y hy hw x hx) ∙ ap (place_of w) q in
        subst (λ (z : ℕ). f z ≡ g z) k (e (tile_width * y + x) (omega (arith, hx, hy)) (omega (arith, hx)))

module _ (area fg : List Float) (flat : List Bool) (rgba : List (List Float)) (n : length rgba ≡ tile_size) where
  -- a pixel after the colour
  laid : (k : ℕ) → k < tile_size → get_or (composite_of area fg (meant flat rgba)) k [] ≡ over_of fg (get_or area k nan) (spread flat rgba k (get_or rgba k []))
  unfolding composite_of
  laid k h =
      get_d_mapi (each area fg) (meant flat rgba) k [] [] (subst (λ (z : ℕ). k < z) (sym (meant_length flat rgba ∙ n)) h)
      ∙ ap (over_of fg (get_or area k nan)) (meant_at flat rgba k n h)

  module _ (w tx ty y : ℕ) (hy : y < tile_height) (hw : tile_width * tx + tile_width ≤ w) (l m : List ℕ) where
    on_one : (one : List Float) → get_or flat y false ≡ true → one ≡ get_or rgba (row_start y) []
        → (k : ℕ) → k < tile_size → k / tile_width ≡ y → over_of fg (get_or area k nan) one ≡ get_or (composite_of area fg (meant flat rgba)) k []
    on_one one on e k h row = ap (over_of fg (get_or area k nan)) (e ∙ sym (of_first flat rgba y k (get_or rgba k []) row on)) ∙ sym (laid k h)

    -- flat, and of several areas
    pub laid_slope : (one : List Float) → get_or flat y false ≡ true → one ≡ get_or rgba (row_start y) []
        → m ≡ mapi (within (row_at w tx ty y) (row_at w tx ty y + tile_width) (from_one area fg one w)) l
        → m ≡ mapi (within (row_at w tx ty y) (row_at w tx ty y + tile_width) (from_list (composite_of area fg (meant flat rgba)) w)) l
    laid_slope one on e h =
        row_words (λ k. over_of fg (get_or area k nan) one) (λ k. get_or (composite_of area fg (meant flat rgba)) k []) w tx ty y l m hy hw (on_one one on e) h

    -- not flat
    pub laid_each : get_or flat y false ≡ false → m ≡ mapi (within (row_at w tx ty y) (row_at w tx ty y + tile_width) (from_each area fg rgba w)) l
        → m ≡ mapi (within (row_at w tx ty y) (row_at w tx ty y + tile_width) (from_list (composite_of area fg (meant flat rgba)) w)) l
    laid_each off h =
        row_words (λ k. over_of fg (get_or area k nan) (get_or rgba k [])) (λ k. get_or (composite_of area fg (meant flat rgba)) k []) w tx ty y l m hy hw
        (λ k i row. ap (over_of fg (get_or area k nan)) (sym (of_own flat rgba y k (get_or rgba k []) row off)) ∙ sym (laid k i)) h

    -- flat, and of one area: one word for all of the row
    pub laid_level : (word : ℕ) (one : List Float) → get_or flat y false ≡ true → one ≡ get_or rgba (row_start y) [] → Level area (row_start y)
        → word ≡ pack_of (over_of fg (get_or area (row_start y) nan) one)
        → m ≡ mapi (within (row_at w tx ty y) (row_at w tx ty y + tile_width) (one_word word)) l
        → m ≡ mapi (within (row_at w tx ty y) (row_at w tx ty y + tile_width) (from_list (composite_of area fg (meant flat rgba)) w)) l
    laid_level word one on e level q h =
        let first = on_one one on e (tile_width * y) (omega (arith, hy)) (omega arith) in
        once (composite_of area fg (meant flat rgba)) w tx ty y word l m hy hw
        (λ x i. ap pack_of (sym (on_one one on e (tile_width * y + x) (omega (arith, i, hy)) (omega (arith, i))) ∙ ap (λ (a : Float). over_of fg a one) (level x i) ∙ first))
        (q ∙ ap pack_of first) h
