-- All rows of a segment at once: the lists have each row in its place, so that what they do to a pixel is what the segment does. Assumes nothing.
use mathlib.Core.Path.{◌≡◌, refl, sym, ap, subst, ◌∙◌}
use mathlib.Core.Bool.{Bool, true, ◌&&◌}
use mathlib.Core.List.{List}
use mathlib.Core.Logic.{⊎_elim}
use Prim.Native.Nat.{ℕ, ◌+◌, ◌/◌, ◌≤◌, ◌<◌}
use native.Mathlib.Nat.{eq-or-lt_of_le}
use native.Mathlib.Omega.{arith}
use lib.ListN.{length, get_or}
use lib.Ieee.{Float, nan, eq, ne}
use Rattle.util.specs.Constants.{zero}
use Rattle.float32.proofs.Tests.{first, second}
use Rattle.lists.specs.Grid.{mapi, within}
use Rattle.lists.specs.GridLaws.{length_mapi, get_d_mapi, mapi_is, within_all, within_cong}
use Rattle.ranges.proofs.Turn.{Done, turned_to, kept}
use Rattle.sides.specs.Tile.{tile_width, tile_height, tile_size, row_start, row_end}
use Rattle.one_row.specs.Row.{row_of, step_row, step_way}
use Rattle.tile_rows.specs.Rows.{no_rows, of_row, column, row_in, step_in, clear_at_word, four_clear}
use Rattle.one_row.specs.declared.Way.{Way}
use Rattle.one_row.specs.declared.Row.{Row}

-- changed alike at each place that the list has
mapi_alike : (f g : ℕ → Float → Float) (l : List Float) → ((k : ℕ) (x : Float) → k < length l → f k x ≡ g k x) → mapi f l ≡ mapi g l
mapi_alike f g l e = mapi_is g l (mapi f l) nan nan (length_mapi f l) (λ k h. get_d_mapi f l k nan nan h ∙ e k (get_or l k nan) h)

-- ---- what the lists do, row by row
module _ (w : Way) (ys y0s y1s dys edges : List Float) where
  abbrev all : ℕ → Float → Float
  all = step_in w ys y0s y1s dys edges

  module _ (yi : ℕ) (r : Row) (e : r ≡ row_in ys y0s y1s dys edges yi) where
    -- within the row yi the pixel's row is r
    here : (k : ℕ) (x : Float) → row_start yi ≤ k → k < row_end yi → step_row w r k x ≡ all k x
    unfolding step_in
    here k x lo hi = let q : yi ≡ k / tile_width = omega arith in ap (λ (z : Row). step_row w z k x) (e ∙ ap (row_in ys y0s y1s dys edges) q)

    -- one more row
    pub one_row : (a b : ℕ) (l₀ l m : List Float) → a ≤ row_start yi → row_end yi ≡ b → Done all a (row_start yi) l₀ l → m ≡ mapi (within (row_start yi) (row_end yi) (step_row w r)) l
        → Done all a b l₀ m
    one_row a b l₀ l m h n done q =
        subst (λ (z : ℕ). Done all a z l₀ m) n
        (turned_to all nan a (row_start yi) (row_end yi) l₀ l m h (omega arith) done (q ∙ within_cong (step_row w r) all (row_start yi) (row_end yi) nan l here))

  -- a row with no height and no y_edge changes nothing
  clear_row : (yi k : ℕ) (x : Float) → clear_at_word dys edges yi ≡ true → yi ≡ k / tile_width → x ≡ all k x
  unfolding step_in step_row ne
  clear_row yi k x c q =
      let d = subst (λ (n : ℕ). clear_at_word dys edges n ≡ true) q c in
      let t = eq (get_or dys (k / tile_width) nan) zero in
      let u = eq (get_or edges (k / tile_width) nan) zero in
      rw (first t u d, second t u d) refl

  clear_at : (a q : ℕ) → a ≤ q → clear_at_word dys edges a ≡ true → (a < q → clear_at_word dys edges q ≡ true) → clear_at_word dys edges q ≡ true
  clear_at a q h c rest = ⊎_elim (λ e. subst (λ (n : ℕ). clear_at_word dys edges n ≡ true) e c) (λ l. rest l) (eq-or-lt_of_le h)

  -- four such rows
  pub passed_over : (yi : ℕ) (l : List Float) → four_clear dys edges yi ≡ true → l ≡ mapi (within (row_start yi) (row_start (yi + 4)) all) l
  passed_over yi l c = kept all nan (row_start yi) (row_start (yi + 4)) l (λ k x lo hi. clear_row (k / tile_width) k x (at (k / tile_width) (omega arith) (omega arith)) refl)
    where
      clears : ℕ → Bool
      clears n = clear_at_word dys edges n

      three : ((clears yi && clears (yi + 1)) && clears (yi + 2)) ≡ true
      three = first ((clears yi && clears (yi + 1)) && clears (yi + 2)) (clears (yi + 3)) c

      two : (clears yi && clears (yi + 1)) ≡ true
      two = first (clears yi && clears (yi + 1)) (clears (yi + 2)) three

      at : (q : ℕ) → yi ≤ q → q < yi + 4 → clear_at_word dys edges q ≡ true
      at q lo hi =
          clear_at yi q lo (first (clears yi) (clears (yi + 1)) two)
          (λ i. clear_at (yi + 1) q (omega (arith, i)) (second (clears yi) (clears (yi + 1)) two)
          (λ j. clear_at (yi + 2) q (omega (arith, j)) (second (clears yi && clears (yi + 1)) (clears (yi + 2)) three)
          (λ k. clear_at (yi + 3) q (omega (arith, k)) (second ((clears yi && clears (yi + 1)) && clears (yi + 2)) (clears (yi + 3)) c) (λ n. absurd (omega (arith, n, hi))))))

-- ---- the lists that `put` leaves
room : length no_rows ≡ tile_height
unfolding no_rows
room = refl

-- whatever stood there
pub column_any : (f : Row → Float) (w : Way) (yt : Float) (l : List Float) → length l ≡ tile_height → column f w yt l ≡ column f w yt no_rows
column_any f w yt l n =
    let g = of_row f w yt in
    within_all g tile_height nan l (omega (arith, n))
    ∙ mapi_is g no_rows (mapi g l) nan nan (length_mapi g l ∙ n ∙ sym room) (λ k h. get_d_mapi g l k nan nan (omega (arith, n, room, h)))
    ∙ sym (within_all g tile_height nan no_rows (omega (arith, room)))

module _ (w : Way) (yt : Float) where
  column_at : (f : Row → Float) (l : List Float) (yi : ℕ) → yi < tile_height → l ≡ column f w yt no_rows → get_or l yi nan ≡ f (row_of w yt yi)
  column_at f l yi h e =
      let n : length no_rows ≤ tile_height = omega (arith, room) in
      let k : yi < length no_rows = omega (arith, room) in
      ap (λ (z : List Float). get_or z yi nan) (e ∙ within_all (of_row f w yt) tile_height nan no_rows n) ∙ get_d_mapi (of_row f w yt) no_rows yi nan nan k

  whole : (r : Row) (y y0 y1 dy edge : Float) → y ≡ r.y → y0 ≡ r.y0 → y1 ≡ r.y1 → dy ≡ r.dy → edge ≡ r.edge
      → record { y = y; y0 = y0; y1 = y1; dy = dy; edge = edge } ≡ r
  whole r y y0 y1 dy edge a b c d e = rw (a, b, c, d, e) refl

  module _ (ys y0s y1s dys edges : List Float)
      (a : ys ≡ column (λ (r : Row). r.y) w yt no_rows)
      (b : y0s ≡ column (λ (r : Row). r.y0) w yt no_rows)
      (c : y1s ≡ column (λ (r : Row). r.y1) w yt no_rows)
      (d : dys ≡ column (λ (r : Row). r.dy) w yt no_rows)
      (e : edges ≡ column (λ (r : Row). r.edge) w yt no_rows) where
    row_in_lem : (yi : ℕ) → yi < tile_height → row_in ys y0s y1s dys edges yi ≡ row_of w yt yi
    row_in_lem yi h =
        whole (row_of w yt yi) _ _ _ _ _ (column_at (λ (r : Row). r.y) ys yi h a) (column_at (λ (r : Row). r.y0) y0s yi h b) (column_at (λ (r : Row). r.y1) y1s yi h c)
        (column_at (λ (r : Row). r.dy) dys yi h d) (column_at (λ (r : Row). r.edge) edges yi h e)

    pub all_rows : (l m : List Float) → length l ≡ tile_size → m ≡ mapi (step_in w ys y0s y1s dys edges) l → m ≡ mapi (step_way w yt) l
    unfolding step_in step_way
    all_rows l m n h =
        h ∙ mapi_alike (step_in w ys y0s y1s dys edges) (step_way w yt) l
        (λ k x lt. let q : k / tile_width < tile_height = omega (arith, n) in ap (λ (r : Row). step_row w r k x) (row_in_lem (k / tile_width) q))
