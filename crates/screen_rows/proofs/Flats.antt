-- A tile's rows, flat or not: how they start, and how they are packed. Assumes nothing.
use mathlib.Core.Path.{◌≡◌, refl, sym, ap, subst, ◌∙◌}
use mathlib.Core.Bool.{Bool, true, false}
use mathlib.Core.List.{List, []}
use mathlib.Core.Logic.{⊎_elim}
use Prim.Native.Nat.{ℕ, ◌+◌, ◌-◌, ◌*◌, ◌/◌, ◌≤◌, ◌<◌}
use native.Mathlib.Nat.{eq-or-lt_of_le}
use native.Mathlib.Omega.{arith}
use lib.ListN.{length, get_or, set, get_or-replicate, length-replicate}
use lib.Seq.{get_or-set_same, get_or-set_other}
use lib.Ieee.{Float}
use Rattle.lists.specs.Grid.{mapi, within}
use Rattle.lists.specs.GridLaws.{get_d_mapi, mapi_is, within_cong}
use Rattle.sides.specs.Tile.{tile_width, tile_height, tile_size, row_start}
use Rattle.colours.specs.Colour.{pack_of}
use Rattle.colours.specs.Layer.{spread, meant}
use Rattle.colours.proofs.FlatLaws.{of_first, of_own}
use Rattle.commands.specs.Alike.{same_colour}
use Rattle.screen_rows.specs.Rows.{row_at, place_of, from_list, all_flat, one_word, OneWord}
use Rattle.screen_rows.proofs.Places.{place_in_row}

-- ---- how they start
-- the rows above y have their first pixel
abbrev pub Started : List (List Float) → List Float → ℕ → Type 0
Started rgba px y = (j : ℕ) → j < y → get_or rgba (row_start j) [] ≡ px

pub none_started : (rgba : List (List Float)) (px : List Float) → Started rgba px 0
none_started rgba px j h = absurd (omega (arith, h))

pub one_started : (rgba : List (List Float)) (px : List Float) (y : ℕ) → length rgba ≡ tile_size → y < tile_height → Started rgba px y → Started (set rgba (row_start y) px) px (y + 1)
one_started rgba px y n h s j i =
    ⊎_elim
    (λ (e : j ≡ y). ap (λ (z : ℕ). get_or (set rgba (row_start y) px) (row_start z) []) e ∙ get_or-set_same rgba (row_start y) px [] (subst (λ (z : ℕ). row_start y < z) (sym n) (omega (arith, h))))
    (λ (l : j < y). get_or-set_other rgba (row_start y) (row_start j) px [] (λ e. omega (arith, l, e)) ∙ s j l)
    (eq-or-lt_of_le (omega (arith, i)))

pub all_started : (rgba : List (List Float)) (px : List Float) (y : ℕ) → length rgba ≡ tile_size → tile_height ≤ y → Started rgba px y → meant all_flat rgba ≡ same_colour px
unfolding meant all_flat same_colour
all_started rgba px y n h s =
    sym (mapi_is (spread all_flat rgba) rgba (same_colour px) [] [] (length-replicate tile_size px ∙ sym n)
    (λ k i.
    let j : k < tile_size = subst (λ (z : ℕ). k < z) n i in
    let r : k / tile_width < tile_height = omega (arith, j) in
    get_or-replicate tile_size k px [] j
    ∙ sym (of_first all_flat rgba (k / tile_width) k (get_or rgba k []) refl (get_or-replicate tile_height (k / tile_width) true false r) ∙ s (k / tile_width) (omega (arith, r, h)))))

-- ---- how they are packed
-- one word for all of the row
pub once : (rgba : List (List Float)) (w tx ty y word : ℕ) (l m : List ℕ) → y < tile_height → tile_width * tx + tile_width ≤ w → OneWord rgba (tile_width * y)
    → word ≡ pack_of (get_or rgba (tile_width * y) []) → m ≡ mapi (within (row_at w tx ty y) (row_at w tx ty y + tile_width) (one_word word)) l
    → m ≡ mapi (within (row_at w tx ty y) (row_at w tx ty y + tile_width) (from_list rgba w)) l
once rgba w tx ty y word l m hy hw one e h = h ∙ within_cong (one_word word) (from_list rgba w) R (R + tile_width) 0 l (λ p x lo hi. at p lo hi)
  where
    R : ℕ
    R = row_at w tx ty y

    at : (p : ℕ) → R ≤ p → p < R + tile_width → word ≡ pack_of (get_or rgba (place_of w p) [])
    at p lo hi =
        let x = p - R in
        let hx : x < tile_width = omega (arith, lo, hi) in
        let q : R + x ≡ p = omega (arith, lo) in
        e ∙ sym (one x hx) ∙ ap (λ (k : ℕ). pack_of (get_or rgba k [])) (sym (place_in_row w tx ty y hy hw x hx) ∙ ap (place_of w) q)

pub meant_at : (flat : List Bool) (rgba : List (List Float)) (k : ℕ) → length rgba ≡ tile_size → k < tile_size → get_or (meant flat rgba) k [] ≡ spread flat rgba k (get_or rgba k [])
unfolding meant
meant_at flat rgba k n h = get_d_mapi (spread flat rgba) rgba k [] [] (subst (λ (z : ℕ). k < z) (sym n) h)

module _ (flat : List Bool) (rgba : List (List Float)) (n : length rgba ≡ tile_size) (w tx ty y : ℕ) (hy : y < tile_height) (hw : tile_width * tx + tile_width ≤ w) (l m : List ℕ) where
  in_row : (x : ℕ) → x < tile_width → (tile_width * y + x) / tile_width ≡ y
  in_row x h = omega (arith, h)

  -- a flat row has the word of its first pixel
  pub put_flat : (word : ℕ) → get_or flat y false ≡ true → word ≡ pack_of (get_or rgba (tile_width * y) [])
      → m ≡ mapi (within (row_at w tx ty y) (row_at w tx ty y + tile_width) (one_word word)) l
      → m ≡ mapi (within (row_at w tx ty y) (row_at w tx ty y + tile_width) (from_list (meant flat rgba) w)) l
  put_flat word on e h =
      once (meant flat rgba) w tx ty y word l m hy hw (λ x i. ap pack_of (at x i ∙ sym first)) (e ∙ ap pack_of (sym first)) h
    where
      at : (x : ℕ) → x < tile_width → get_or (meant flat rgba) (tile_width * y + x) [] ≡ get_or rgba (row_start y) []
      at x i =
          meant_at flat rgba (tile_width * y + x) n (omega (arith, i, hy))
          ∙ of_first flat rgba y (tile_width * y + x) (get_or rgba (tile_width * y + x) []) (in_row x i) on

      first : get_or (meant flat rgba) (tile_width * y) [] ≡ get_or rgba (tile_width * y) []
      first = meant_at flat rgba (tile_width * y) n (omega (arith, hy)) ∙ of_first flat rgba y (tile_width * y) (get_or rgba (tile_width * y) []) (omega arith) on

  -- the others have their own
  pub put_own : get_or flat y false ≡ false → m ≡ mapi (within (row_at w tx ty y) (row_at w tx ty y + tile_width) (from_list rgba w)) l
      → m ≡ mapi (within (row_at w tx ty y) (row_at w tx ty y + tile_width) (from_list (meant flat rgba) w)) l
  put_own off h = h ∙ within_cong (from_list rgba w) (from_list (meant flat rgba) w) R (R + tile_width) 0 l (λ p old lo hi. ap pack_of (at p lo hi))
    where
      R : ℕ
      R = row_at w tx ty y

      own : (x : ℕ) → x < tile_width → get_or rgba (tile_width * y + x) [] ≡ get_or (meant flat rgba) (tile_width * y + x) []
      own x i =
          sym (meant_at flat rgba (tile_width * y + x) n (omega (arith, i, hy))
          ∙ of_own flat rgba y (tile_width * y + x) (get_or rgba (tile_width * y + x) []) (in_row x i) off)

      at : (p : ℕ) → R ≤ p → p < R + tile_width → get_or rgba (place_of w p) [] ≡ get_or (meant flat rgba) (place_of w p) []
      at p lo hi =
          let x = p - R in
          let hx : x < tile_width = omega (arith, lo, hi) in
          let q : R + x ≡ p = omega (arith, lo) in
          let k : tile_width * y + x ≡ place_of w p = sym (place_in_row w tx ty y hy hw x hx) ∙ ap (place_of w) q in
          subst (λ (z : ℕ). get_or rgba z [] ≡ get_or (meant flat rgba) z []) k (own x hx)
