-- Rows above one that lies above the segment, and below one that lies below it, get nothing: from row to row the segment's ends only rise, and what is left below y_edge
-- only grows (`rounded`, Rises). Assumes nothing.
use mathlib.Core.Path.{◌≡◌, refl, sym, ap, subst, ◌∙◌}
use mathlib.Core.Bool.{Bool, true, false, not, cond, ◌&&◌, ◌||◌}
use mathlib.Core.List.{List}
use mathlib.Core.Logic.{◌⊎◌, inl, inr}
use Prim.Native.Nat.{ℕ, ◌+◌, ◌-◌, ◌/◌, ◌%◌, ◌≤◌, ◌<◌}
use native.Mathlib.Omega.{arith}
use lib.Dec.{T, eqb, leb}
use lib.IntN.{pos}
use lib.ListN.{length}
use lib.Ieee.{Float, nan, binary32, add, sub, lt, eq, le, ne, of_bits, of_int, is_nan}
use lib.Ieee.Fits.{add-fits, sub-fits}
use lib.Ieee.Scale.{finite}
use borrow.Author.Tests.{eqb-true, leb-true}
use Rattle.util.specs.Constants as Number
use Rattle.float32.specs.Meaning.{clamp_of}
use Rattle.float32.proofs.Order.{not_lt_of_le, le_left, le_right}
use Rattle.float32.proofs.Tests.{yes, first, second}
use Rattle.rounded.proofs.Rises.{add_rises, add_rises', sub_rises, sub_falls, int_rises, at_most_trans}
use Rattle.rounded.proofs.Numbers.{add-number, sub_number, less_number, finite_term, number_sum, number_less, int_finite, both_finite}
use Rattle.rounded.proofs.Cuts.{cut_high, cut_low}
use Rattle.rounded.proofs.Zeros.{no_height, zeros_apart, zero_times}
use Rattle.lists.specs.Grid.{mapi, within}
use Rattle.lists.specs.GridLaws.{within_cong}
use Rattle.ranges.proofs.Turn.{Done, turned_to, ended, kept}
use Rattle.sides.specs.Tile.{tile_width, tile_height, tile_size, row_start, row_end}
use Rattle.one_row.specs.Row.{row_of, step_row, step_way}
use Rattle.tile_rows.specs.Own.{top_of, start_of, end_of, left_of, above_of, below_of, edgeless_of, only_of}
use Rattle.one_row.specs.declared.Way.{Way}
use Rattle.one_row.specs.declared.Row.{Row}

-- ---- rows
-- one of two tests
either : (a b : Bool) → (a || b) ≡ true → (a ≡ true) ⊎ (b ≡ true)
either true b h = inl refl
either false b h = inr h

module _ (w : Way) (yt : Float) where
  top_rises : (p q : ℕ) → p ≤ q → lt (top_of yt q) (top_of yt p) ≡ false
  top_rises p q h = add_rises' (of_int binary32 (pos p)) (of_int binary32 (pos q)) yt (int_rises p q h)

  start_falls : (p q : ℕ) → p ≤ q → lt (start_of w yt p) (start_of w yt q) ≡ false
  start_falls p q h = sub_falls (top_of yt p) (top_of yt q) w.y (top_rises p q h)

  end_falls : (p q : ℕ) → p ≤ q → lt (end_of w yt p) (end_of w yt q) ≡ false
  end_falls p q h = add_rises (start_of w yt q) (start_of w yt p) w.dy (start_falls p q h)

  left_rises : (p q : ℕ) → p ≤ q → lt (left_of w yt q) (left_of w yt p) ≡ false
  left_rises p q h =
      add_rises (sub binary32 (top_of yt p) w.edge) (sub binary32 (top_of yt q) w.edge) Number.one (sub_rises (top_of yt p) (top_of yt q) w.edge (top_rises p q h))

  module _ (fy : T (finite w.y)) (fd : T (finite w.dy)) (none_left : edgeless_of w yt ≡ true) where
    abbrev bounded : Bool
    bounded = finite w.sign && finite w.edge

    both_bounded : bounded ≡ true
    unfolding edgeless_of
    both_bounded = first bounded (le (left_of w yt (tile_height - 1)) Number.zero) none_left

    last_left : le (left_of w yt (tile_height - 1)) Number.zero ≡ true
    unfolding edgeless_of
    last_left = second bounded (le (left_of w yt (tile_height - 1)) Number.zero) none_left

    sign_finite : T (finite w.sign)
    sign_finite = yes (first (finite w.sign) (finite w.edge) both_bounded)

    edge_finite : T (finite w.edge)
    edge_finite = yes (second (finite w.sign) (finite w.edge) both_bounded)

    yt_number : T (not (is_nan yt))
    yt_number =
        number_sum yt (of_int binary32 (pos (tile_height - 1)))
        (number_less (top_of yt (tile_height - 1)) w.edge
        (number_sum (sub binary32 (top_of yt (tile_height - 1)) w.edge) Number.one (le_left (left_of w yt (tile_height - 1)) Number.zero last_left)))

    top_number : (q : ℕ) → q < tile_height → T (not (is_nan (top_of yt q)))
    top_number q h = add-number yt (of_int binary32 (pos q)) yt_number (int_finite q (omega arith))

    start_number : (q : ℕ) → q < tile_height → T (not (is_nan (start_of w yt q)))
    start_number q h = sub_number w.y (top_of yt q) fy (top_number q h)

    end_number : (q : ℕ) → q < tile_height → T (not (is_nan (end_of w yt q)))
    end_number q h = add-number (start_of w yt q) w.dy (start_number q h) fd

    left_number : (q : ℕ) → q < tile_height → T (not (is_nan (left_of w yt q)))
    left_number q h =
        add-number (sub binary32 (top_of yt q) w.edge) Number.one
        (less_number (top_of yt q) w.edge (top_number q h) edge_finite) (unfold of_bits in tt)

    no_edge_lem : (q : ℕ) → q < tile_height → eq (row_of w yt q).edge Number.zero ≡ true
    unfolding row_of
    no_edge_lem q h =
        zero_times w.sign (clamp_of (left_of w yt q) Number.zero Number.one) sign_finite
        (cut_low (left_of w yt q) (left_number q h)
        (at_most_trans (left_of w yt q) (left_of w yt (tile_height - 1)) Number.zero (le_left (left_of w yt (tile_height - 1)) Number.zero last_left)
        (left_rises q (tile_height - 1) (omega arith)) (not_lt_of_le (left_of w yt (tile_height - 1)) Number.zero last_left)))

    above_row : (j q : ℕ) → above_of w yt j ≡ true → q ≤ j → j < tile_height → eq (row_of w yt q).dy Number.zero ≡ true
    unfolding row_of above_of
    above_row j q a h l =
        let s = first (le Number.one (start_of w yt j)) (le Number.one (end_of w yt j)) a in
        let e = second (le Number.one (start_of w yt j)) (le Number.one (end_of w yt j)) a in
        rw (
          cut_high (start_of w yt q) (sub-fits binary32 w.y (top_of yt q)) (start_number q (omega arith))
              (at_most_trans Number.one (start_of w yt j) (start_of w yt q) (start_number j l) (not_lt_of_le Number.one (start_of w yt j) s) (start_falls q j h)),
          cut_high (end_of w yt q) (add-fits binary32 (start_of w yt q) w.dy) (end_number q (omega arith))
              (at_most_trans Number.one (end_of w yt j) (end_of w yt q) (end_number j l) (not_lt_of_le Number.one (end_of w yt j) e) (end_falls q j h)),
        ) no_height

    below_row : (j q : ℕ) → below_of w yt j ≡ true → j ≤ q → q < tile_height → eq (row_of w yt q).dy Number.zero ≡ true
    unfolding row_of below_of
    below_row j q b h l =
        let s = first (le (start_of w yt j) Number.zero) (le (end_of w yt j) Number.zero) b in
        let e = second (le (start_of w yt j) Number.zero) (le (end_of w yt j) Number.zero) b in
        zeros_apart (clamp_of (start_of w yt q) Number.zero Number.one) (clamp_of (end_of w yt q) Number.zero Number.one)
        (cut_low (start_of w yt q) (start_number q l)
        (at_most_trans (start_of w yt q) (start_of w yt j) Number.zero (start_number j (omega arith)) (start_falls j q h) (not_lt_of_le (start_of w yt j) Number.zero s)))
        (cut_low (end_of w yt q) (end_number q l)
        (at_most_trans (end_of w yt q) (end_of w yt j) Number.zero (end_number j (omega arith)) (end_falls j q h) (not_lt_of_le (end_of w yt j) Number.zero e)))

    -- such a row changes no pixel
    clear : (k : ℕ) (x : Float) → k / tile_width < tile_height → eq (row_of w yt (k / tile_width)).dy Number.zero ≡ true → x ≡ step_way w yt k x
    unfolding step_way step_row ne
    clear k x h d = rw (d, no_edge_lem (k / tile_width) h) refl

    -- ---- and so only those from .. to do
    module _ (from to : ℕ) (only : only_of w yt from to ≡ true) where
      abbrev inside : Bool
      inside = leb from to && leb to tile_height

      abbrev high : Bool
      high = eqb from 0 || above_of w yt ((from + (tile_height - 1)) % tile_height)

      abbrev low : Bool
      low = eqb to tile_height || below_of w yt (to % tile_height)

      front : (inside && high) ≡ true
      unfolding only_of
      front = first (inside && high) low only

      pub in_order : from ≤ to
      in_order = leb-true from to (first (leb from to) (leb to tile_height) (first inside high front))

      pub in_tile : to ≤ tile_height
      in_tile = leb-true to tile_height (second (leb from to) (leb to tile_height) (first inside high front))

      no_rows_above : (q : ℕ) → q < from → eq (row_of w yt q).dy Number.zero ≡ true
      no_rows_above q h = go (either (eqb from 0) (above_of w yt ((from + (tile_height - 1)) % tile_height)) (second inside high front))
        where
          at : (from + (tile_height - 1)) % tile_height ≡ from - 1
          at = omega (arith, in_order, in_tile)

          go : (eqb from 0 ≡ true) ⊎ (above_of w yt ((from + (tile_height - 1)) % tile_height) ≡ true) → eq (row_of w yt q).dy Number.zero ≡ true
          go (inl e) = absurd (omega (arith, eqb-true from 0 e))
          go (inr a) = above_row (from - 1) q (subst (λ (n : ℕ). above_of w yt n ≡ true) at a) (omega arith) (omega (arith, in_order, in_tile))

      no_rows_below : (q : ℕ) → to ≤ q → q < tile_height → eq (row_of w yt q).dy Number.zero ≡ true
      unfolding only_of
      no_rows_below q h l = go (either (eqb to tile_height) (below_of w yt (to % tile_height)) (second (inside && high) low only))
        where
          at : to % tile_height ≡ to
          at = omega arith

          go : (eqb to tile_height ≡ true) ⊎ (below_of w yt (to % tile_height) ≡ true) → eq (row_of w yt q).dy Number.zero ≡ true
          go (inl e) = absurd (omega (arith, eqb-true to tile_height e))
          go (inr b) = below_row to q (subst (λ (n : ℕ). below_of w yt n ≡ true) at b) h l

      pub few : (l m : List Float) → length l ≡ tile_size → m ≡ mapi (within (row_start from) (row_start to) (step_way w yt)) l → m ≡ mapi (step_way w yt) l
      few l m n e =
          ended f nan tile_size tile_size l m
          (turned_to f nan 0 (row_start to) tile_size l m m (omega arith) (omega (arith, in_tile))
          (turned_to f nan 0 (row_start from) (row_start to) l l m (omega arith) (omega (arith, in_order)) (refl, before) e) after) n (omega arith)
        where
          f : ℕ → Float → Float
          f = step_way w yt

          before : l ≡ mapi (within 0 (row_start from) f) l
          before =
              kept f nan 0 (row_start from) l
              (λ k x lo hi. clear k x (omega (arith, in_order, in_tile, hi)) (no_rows_above (k / tile_width) (omega (arith, hi))))

          after : m ≡ mapi (within (row_start to) tile_size f) m
          after =
              kept f nan (row_start to) tile_size m
              (λ k x lo hi. clear k x (omega (arith, hi)) (no_rows_below (k / tile_width) (omega (arith, lo)) (omega (arith, hi))))

-- ---- one row more, of those from .. to
module _ (w : Way) (yt : Float) (yi : ℕ) (r : Row) (e : r ≡ row_of w yt yi) where
  here : (k : ℕ) (x : Float) → row_start yi ≤ k → k < row_end yi → step_row w r k x ≡ step_way w yt k x
  unfolding step_way
  here k x lo hi = let q : yi ≡ k / tile_width = omega arith in ap (λ (z : Row). step_row w z k x) (e ∙ ap (row_of w yt) q)

  pub row_more : (a : ℕ) (l₀ l m : List Float) → a ≤ row_start yi → Done (step_way w yt) a (row_start yi) l₀ l → m ≡ mapi (within (row_start yi) (row_end yi) (step_row w r)) l
      → Done (step_way w yt) a (row_start (yi + 1)) l₀ m
  row_more a l₀ l m h done q =
      let n : row_end yi ≡ row_start (yi + 1) = omega arith in
      subst (λ (z : ℕ). Done (step_way w yt) a z l₀ m) n
      (turned_to (step_way w yt) nan a (row_start yi) (row_end yi) l₀ l m h (omega arith) done (q ∙ within_cong (step_row w r) (step_way w yt) (row_start yi) (row_end yi) nan l here))

-- ---- the tests of `add_segment`: the lower end is 0 or more and the higher 16 or less, and no y_edge
module _ (w : Way) (yt low high : Float) (g : Bool)
    (l_is : low ≡ cond (lt (add binary32 w.y w.dy) w.y) (add binary32 w.y w.dy) w.y)
    (h_is : high ≡ cond (lt (add binary32 w.y w.dy) w.y) w.y (add binary32 w.y w.dy))
    (g_is : g ≡ edgeless_of w yt)
    (tests : ((le Number.zero low && le high Number.tile_side) && g) ≡ true) where
  abbrev ends_in : Bool
  ends_in = le Number.zero low && le high Number.tile_side

  both_in : ends_in ≡ true
  both_in = first ends_in g tests

  low_in : le Number.zero low ≡ true
  low_in = first (le Number.zero low) (le high Number.tile_side) both_in

  high_in : le high Number.tile_side ≡ true
  high_in = second (le Number.zero low) (le high Number.tile_side) both_in

  no_left : edgeless_of w yt ≡ true
  no_left = sym g_is ∙ second ends_in g tests

  pub low_number : T (not (is_nan (sub binary32 low Number.half)))
  low_number = less_number low Number.half (le_right Number.zero low low_in) (unfold of_bits in tt)

  pub high_number : T (not (is_nan (add binary32 high Number.half)))
  high_number = add-number high Number.half (le_left high Number.tile_side high_in) (unfold of_bits in tt)

  finites : T (finite w.y) × T (finite (add binary32 w.y w.dy))
  finites =
      both_finite w.y (add binary32 w.y w.dy) (subst (λ (z : Float). le Number.zero z ≡ true) l_is low_in)
      (subst (λ (z : Float). le z Number.tile_side ≡ true) h_is high_in)

  -- and the rows that were tried
  module _ (from to : ℕ) (only : only_of w yt from to ≡ true) where
    pub tried_order : from ≤ to
    tried_order = in_order w yt finites.0 (finite_term w.y w.dy finites.1) no_left from to only

    pub tried_tile : to ≤ tile_height
    tried_tile = in_tile w yt finites.0 (finite_term w.y w.dy finites.1) no_left from to only

    pub tried_few : (l m : List Float) → length l ≡ tile_size → m ≡ mapi (within (row_start from) (row_start to) (step_way w yt)) l → m ≡ mapi (step_way w yt) l
    tried_few = few w yt finites.0 (finite_term w.y w.dy finites.1) no_left from to only
