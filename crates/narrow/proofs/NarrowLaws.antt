-- A part that lies in a span of its row's columns adds to the columns left of the span what y_edge adds, and to those right of it that and dy, exactly: so a row that is changed by
-- that, and written over within the span, is changed as `slanted` says. Assumes nothing.
--     ends_in_order    of a part's two ends the left one is not right of the right one
--     left_of, right_of    what `added_of` is left of a span and right of it
--     narrow_row       the row
use mathlib.Core.Path.{◌≡◌, refl, sym, ap, subst, ◌∙◌}
use mathlib.Core.Bool.{Bool, true, false, not, cond, ◌&&◌, true≢false}
use mathlib.Core.List.{List}
use mathlib.Core.Logic.{⊎_elim}
use Prim.Native.Nat.{ℕ, ◌+◌, ◌-◌, ◌%◌, ◌^◌, ◌≤◌, ◌<◌, zero-le}
use native.Mathlib.Omega.{arith}
use lib.Dec.{T, leb, ltb, lit≤}
use lib.ListN.{length, get_or, set}
use lib.IntN.{ℤ, pos, ◌-ℤ◌, nat_abs}
use lib.Ieee.{Float, nan, binary32, round, sum, add, sub, mul, neg, lt, le, is_nan, of_bits, of_int}
use lib.Ieee.Fits.{sub-fits}
use lib.Ieee.Scale.{finite}
use borrow.Author.Tests.{le-leb, le-ltb, lt-ltb, leb-true, ltb-true}
use Rattle.util.specs.Constants as Number
use Rattle.float32.proofs.Order.{not_lt_of_le, le_left, le_right}
use Rattle.float32.proofs.Tests as Test
use Rattle.float32.proofs.Tests.{below_or_not}
use Rattle.float32.proofs.Ints.{int_no_nan}
use Rattle.exact.specs.Whole.{IsWhole}
use Rattle.exact.proofs.Signs.{less_plus}
use Rattle.exact.proofs.Exact.{nat_whole, add_whole, sub_whole}
use Rattle.exact.proofs.Compare.{lt_whole}
use Rattle.exact.proofs.Spans.{one_whole}
use Rattle.rounded.specs.Share.{share_of}
use Rattle.rounded.proofs.Rises.{sub_rises, sub_falls, int_rises, at_most_trans}
use Rattle.rounded.proofs.Numbers.{less_number, int_finite}
use Rattle.rounded.proofs.Cuts.{smaller_first}
use Rattle.rounded.proofs.Zeros.{less_itself}
use Rattle.rounded.proofs.Epsilon.{far_left}
use Rattle.rounded.proofs.Beside.{share_left, share_right}
use Rattle.lists.specs.Grid.{mapi, within}
use Rattle.lists.specs.GridLaws.{length_mapi, get_d_mapi, mapi_is, within_none, get_d_tabulate}
use Rattle.ranges.proofs.Turn.{Done, turned, turned_at}
use Rattle.sides.specs.Tile.{tile_width, row_start, row_end}
use Rattle.one_row.specs.Row.{reach_of, added_of, slanted}
use Rattle.one_row.specs.Column.{added_at}
use Rattle.narrow.specs.Narrow.{span, span_width, last_span, column_at, column_list, part_list, pixel_added, four_added, four_put, parted, Narrow}
use Rattle.one_row.specs.declared.Way.{Way}
use Rattle.one_row.specs.declared.Row.{Row}
use Rattle.one_row.specs.declared.Reach.{Reach}
use Rattle.narrow.specs.declared.Four.{Four}

-- ---- a part's ends
pub ends_in_order : (w : Way) (r : Row) → lt (reach_of w r).right (reach_of w r).left ≡ false
unfolding reach_of
ends_in_order w r = smaller_first _ _

-- ---- columns
column_number : (i : ℕ) → T (not (is_nan (column_at i)))
column_number i = int_no_nan i

column_finite : (i : ℕ) → i < tile_width → T (finite (column_at i))
column_finite i h = int_finite i (omega arith)

column_whole : (i : ℕ) → i < tile_width → IsWhole (column_at i) (pos i)
column_whole i h = nat_whole i (omega arith)

width_whole : IsWhole span_width (pos span)
unfolding of_bits
width_whole = (4, refl, refl)

next_column : (i : ℕ) → i + 1 < tile_width → lt (sub binary32 (column_at (i + 1)) (column_at i)) Number.one ≡ false
next_column i h =
    let e : pos (i + 1) -ℤ pos i ≡ pos 1 = less_plus (i + 1) i (omega arith) ∙ ap pos (omega arith) in
    lt_whole (sub binary32 (column_at (i + 1)) (column_at i)) Number.one (pos 1) (pos 1)
    (subst (IsWhole (sub binary32 (column_at (i + 1)) (column_at i))) e
    (sub_whole (column_at (i + 1)) (column_at i) (pos (i + 1)) (pos i) (column_whole (i + 1) h) (column_whole i (omega arith)) (subst (λ (z : ℤ). nat_abs z ≤ 2 ^ 24) (sym e) (lit≤ tt))))
    one_whole

past_span : (g i : ℕ) → g + span ≤ i → i < tile_width → lt (column_at i) (add binary32 (column_at g) span_width) ≡ false
past_span g i h l =
    lt_whole (column_at i) (add binary32 (column_at g) span_width) (pos i) (pos (g + span)) (column_whole i l)
    (add_whole (column_at g) span_width (pos g) (pos span) (column_whole g (omega arith)) width_whole (omega arith)) ∙ le-ltb i (g + span) h

last_column : sub binary32 (column_at 0) (column_at (tile_width - 1)) ≡ far_left
unfolding of_int sub add neg sum round
last_column = refl

module _ (p : Reach) (g : ℕ) (room : g ≤ last_span) (order : lt p.right p.left ≡ false) (from : le (column_at g) p.left ≡ true)
    (to : le p.right (add binary32 (column_at g) span_width) ≡ true) where
  left_number : T (not (is_nan p.left))
  left_number = le_right (column_at g) p.left from

  right_number : T (not (is_nan p.right))
  right_number = le_left p.right (add binary32 (column_at g) span_width) to

  -- the left end is not left of the column q, which is not right of g
  after : (q : ℕ) → q ≤ g → lt p.left (column_at q) ≡ false
  after q h = at_most_trans (column_at q) (column_at g) p.left (column_number g) (int_rises q g h) (not_lt_of_le (column_at g) p.left from)

  module _ (i : ℕ) (l : i < tile_width) where
    abbrev x : Float
    x = sub binary32 p.left (column_at i)

    abbrev y : Float
    y = sub binary32 p.right (column_at i)

    x_number : T (not (is_nan x))
    x_number = less_number p.left (column_at i) left_number (column_finite i l)

    y_number : T (not (is_nan y))
    y_number = less_number p.right (column_at i) right_number (column_finite i l)

    in_order : lt y x ≡ false
    in_order = sub_rises p.left p.right (column_at i) order

    left_share : i < g → share_of x y ≡ Number.zero
    left_share h = share_left x y (sub-fits binary32 p.left (column_at i)) (sub-fits binary32 p.right (column_at i)) y_number beyond (at_most_trans Number.one x y x_number beyond in_order)
      where
        beyond : lt x Number.one ≡ false
        beyond =
            at_most_trans Number.one (sub binary32 (column_at (i + 1)) (column_at i)) x (less_number (column_at (i + 1)) (column_at i) (column_number (i + 1)) (column_finite i l))
            (next_column i (omega arith)) (sub_rises (column_at (i + 1)) p.left (column_at i) (after (i + 1) (omega arith)))

    right_share : g + span ≤ i → share_of x y ≡ Number.one
    right_share h =
        share_right x y (sub-fits binary32 p.left (column_at i)) (sub-fits binary32 p.right (column_at i)) x_number y_number in_order low high
      where
        last : lt (sub binary32 (column_at 0) (column_at i)) far_left ≡ false
        last = subst (λ (z : Float). lt (sub binary32 (column_at 0) (column_at i)) z ≡ false) last_column (sub_falls (column_at i) (column_at (tile_width - 1)) (column_at 0) (int_rises i (tile_width - 1) (omega arith)))

        low : lt x far_left ≡ false
        low =
            at_most_trans far_left (sub binary32 (column_at 0) (column_at i)) x (less_number (column_at 0) (column_at i) (column_number 0) (column_finite i l)) last
            (sub_rises (column_at 0) p.left (column_at i) (after 0 zero-le))

        beside : lt (column_at i) p.right ≡ false
        beside =
            at_most_trans p.right (add binary32 (column_at g) span_width) (column_at i) (le_right p.right (add binary32 (column_at g) span_width) to)
            (not_lt_of_le p.right (add binary32 (column_at g) span_width) to) (past_span g i h l)

        high : lt Number.zero y ≡ false
        high = subst (λ (z : Float). lt z y ≡ false) (less_itself (column_at i) (column_finite i l)) (sub_rises p.right (column_at i) (column_at i) beside)

    pub left_of : (edge dy : Float) → i < g → added_of p edge dy i ≡ add binary32 edge (mul binary32 Number.zero dy)
    unfolding added_of
    left_of edge dy h = ap (λ (a : Float). add binary32 edge (mul binary32 a dy)) (left_share h)

    pub right_of : (edge dy : Float) → g + span ≤ i → added_of p edge dy i ≡ add binary32 edge (mul binary32 Number.one dy)
    unfolding added_of
    right_of edge dy h = ap (λ (a : Float). add binary32 edge (mul binary32 a dy)) (right_share h)

-- ---- the row
column_is : (cols : List Float) → cols ≡ column_list → (i : ℕ) → i < tile_width → get_or cols i nan ≡ column_at i
unfolding column_list
column_is cols e i h = ap (λ (l : List Float). get_or l i nan) e ∙ get_d_tabulate tile_width column_at i nan h

-- the test of `add_part`
pub narrow_by : (p : Reach) (g : ℕ) (cols : List Float) → cols ≡ column_list → g ≤ last_span → lt p.right p.left ≡ false
    → (le (get_or cols g nan) p.left && le p.right (add binary32 (get_or cols g nan) span_width)) ≡ true → Narrow p g
narrow_by p g cols e h order t =
    let c = column_is cols e g (omega arith) in
    let a = le (get_or cols g nan) p.left in
    let b = le p.right (add binary32 (get_or cols g nan) span_width) in (
      order,
      subst (λ (x : Float). le x p.left ≡ true) c (Test.first a b t),
      subst (λ (x : Float). le p.right (add binary32 x span_width) ≡ true) c (Test.second a b t),
    )

abbrev part : ℕ → Float
part n = cond (ltb n tile_width) Number.zero Number.one

part_is : (t : List Float) → t ≡ part_list → (n : ℕ) → n < tile_width + last_span → get_or t n nan ≡ part n
unfolding part_list
part_is t e n h = ap (λ (l : List Float). get_or l n nan) e ∙ get_d_tabulate (tile_width + last_span) part n nan h

module _ (p : Reach) (edge dy : Float) (g yi : ℕ) (room : g ≤ last_span) (narrow : Narrow p g) (cols parts : List Float) (c_is : cols ≡ column_list) (p_is : parts ≡ part_list) (l : List Float) where
  abbrev first : ℕ
  first = row_start yi + g

  -- what the part adds, whatever stood there
  over : ℕ → Float → Float
  over k x = slanted p edge dy k (get_or l k nan)

  pixel : (k i : ℕ) (x : Float) → i < tile_width → i ≡ k % tile_width → pixel_added p edge dy l k cols i ≡ over k x
  unfolding over slanted added_at added_of
  pixel k i x h e = ap (λ (z : Float). add binary32 (get_or l k nan) (added_at p edge dy z)) (column_is cols c_is i h) ∙ ap (λ (n : ℕ). add binary32 (get_or l k nan) (added_of p edge dy n)) e

  module _ (m : List Float) where
    abbrev m₁ : List Float
    m₁ = set m first (pixel_added p edge dy l first cols g)

    abbrev m₂ : List Float
    m₂ = set m₁ (first + 1) (pixel_added p edge dy l (first + 1) cols (g + 1))

    abbrev m₃ : List Float
    m₃ = set m₂ (first + 2) (pixel_added p edge dy l (first + 2) cols (g + 2))

    abbrev m₄ : List Float
    m₄ = set m₃ (first + 3) (pixel_added p edge dy l (first + 3) cols (g + 3))

    put_one : Done over first (first + 1) m m₁
    put_one =
        turned over nan first first m m (pixel_added p edge dy l first cols g) (omega arith) (refl, sym (within_none over first nan m))
        (pixel first g (get_or m first nan) (omega arith) (omega arith))

    put_two : Done over first (first + 2) m m₂
    put_two = turned_at over nan first 1 m m₁ (pixel_added p edge dy l (first + 1) cols (g + 1)) put_one (pixel (first + 1) (g + 1) (get_or m₁ (first + 1) nan) (omega arith) (omega arith))

    put_three : Done over first (first + 3) m m₃
    put_three = turned_at over nan first 2 m m₂ (pixel_added p edge dy l (first + 2) cols (g + 2)) put_two (pixel (first + 2) (g + 2) (get_or m₂ (first + 2) nan) (omega arith) (omega arith))

    put_four : Done over first (first + 4) m m₄
    put_four = turned_at over nan first 3 m m₃ (pixel_added p edge dy l (first + 3) cols (g + 3)) put_three (pixel (first + 3) (g + 3) (get_or m₃ (first + 3) nan) (omega arith) (omega arith))

    put : four_put m first (four_added p edge dy l first cols g) ≡ mapi (within first (first + span) over) m
    unfolding four_put four_added
    put = put_four.1

  -- beside the span
  left_part : (k : ℕ) (x : Float) → row_start yi ≤ k → k < first → parted edge dy parts g k x ≡ slanted p edge dy k x
  unfolding parted slanted
  left_part k x lo hi =
      ap (λ (a : Float). add binary32 x (add binary32 edge (mul binary32 a dy))) (part_is parts p_is (last_span - g + k % tile_width) (omega arith) ∙ ap (λ (b : Bool). cond b Number.zero Number.one) (lt-ltb (last_span - g + k % tile_width) tile_width (omega arith)))
      ∙ ap (add binary32 x) (sym (left_of p g room narrow.0 narrow.1 narrow.2 (k % tile_width) (omega arith) edge dy (omega arith)))

  right_part : (k : ℕ) (x : Float) → first + span ≤ k → k < row_end yi → parted edge dy parts g k x ≡ slanted p edge dy k x
  unfolding parted slanted
  right_part k x lo hi =
      ap (λ (a : Float). add binary32 x (add binary32 edge (mul binary32 a dy))) (part_is parts p_is (last_span - g + k % tile_width) (omega arith) ∙ ap (λ (b : Bool). cond b Number.zero Number.one) (le-ltb (last_span - g + k % tile_width) tile_width (omega arith)))
      ∙ ap (add binary32 x) (sym (right_of p g room narrow.0 narrow.1 narrow.2 (k % tile_width) (omega arith) edge dy (omega arith)))

  module _ (k : ℕ) where
    abbrev in_span : Bool
    in_span = leb first k && ltb k (first + span)

    abbrev in_row : Bool
    in_row = leb (row_start yi) k && ltb k (row_end yi)

    inside : (a b : ℕ) → (leb a k && ltb k b) ≡ true → (a ≤ k) × (k < b)
    inside a b e = (leb-true a k (Test.first (leb a k) (ltb k b) e), ltb-true k b (Test.second (leb a k) (ltb k b) e))

    holds : (a b : ℕ) → a ≤ k → k < b → (leb a k && ltb k b) ≡ true
    holds a b h i = rw (le-leb a k h, lt-ltb k b i) refl

    pixel_at : (s : Bool) → in_span ≡ s → (t : Bool) → in_row ≡ t
        → cond s (over k (get_or l k nan)) (cond t (parted edge dy parts g k (get_or l k nan)) (get_or l k nan)) ≡ cond t (slanted p edge dy k (get_or l k nan)) (get_or l k nan)
    unfolding over
    pixel_at true e true f = refl
    pixel_at true e false f = let i = inside first (first + span) e in absurd (true≢false (sym (holds (row_start yi) (row_end yi) (omega arith) (omega arith)) ∙ f))
    pixel_at false e false f = refl
    pixel_at false e true f =
        let i = inside (row_start yi) (row_end yi) f in
        ⊎_elim (λ (h : k < first). left_part k (get_or l k nan) i.0 h)
        (λ (h : first ≤ k).
        ⊎_elim (λ (j : k < first + span). absurd (true≢false (sym (holds first (first + span) h j) ∙ e))) (λ (j : first + span ≤ k). right_part k (get_or l k nan) j i.1) (below_or_not k (first + span)))
        (below_or_not k first)

  pub narrow_row : (m n : List Float) (f : Four) → f ≡ four_added p edge dy l first cols g → m ≡ mapi (within (row_start yi) (row_end yi) (parted edge dy parts g)) l → n ≡ four_put m first f
      → n ≡ mapi (within (row_start yi) (row_end yi) (slanted p edge dy)) l
  unfolding over
  narrow_row m n f f_is m_is n_is = mapi_is (within (row_start yi) (row_end yi) (slanted p edge dy)) l n nan nan same_length at
    where
      n_by : n ≡ mapi (within first (first + span) over) m
      n_by = n_is ∙ ap (four_put m first) f_is ∙ put m

      m_length : length m ≡ length l
      m_length = ap length m_is ∙ length_mapi (within (row_start yi) (row_end yi) (parted edge dy parts g)) l

      same_length : length n ≡ length l
      same_length = ap length n_by ∙ length_mapi (within first (first + span) over) m ∙ m_length

      at : (k : ℕ) → k < length l → get_or n k nan ≡ within (row_start yi) (row_end yi) (slanted p edge dy) k (get_or l k nan)
      at k h =
          let h' : k < length m = omega (arith, m_length) in
          ap (λ (z : List Float). get_or z k nan) n_by
          ∙ get_d_mapi (within first (first + span) over) m k nan nan h'
          ∙ ap (λ (z : Float). cond (in_span k) (over k (get_or l k nan)) z) (ap (λ (z : List Float). get_or z k nan) m_is ∙ get_d_mapi (within (row_start yi) (row_end yi) (parted edge dy parts g)) l k nan nan h)
          ∙ pixel_at k (in_span k) refl (in_row k) refl
