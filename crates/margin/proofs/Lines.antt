-- A line whose ends are whole numbers of 2 ^ -23 from 1 on, in tiles: every step's z stays within one column and one row of the line's own tiles. Assumes nothing.
--     line_kept    z of each step
use mathlib.Core.Path.{◌≡◌, refl, sym, ap, ◌∙◌, subst}
use mathlib.Core.Bool.{Bool, true, false, cond, true≢false}
use mathlib.Core.Logic.{inl, inr}
use Prim.Native.Nat.{ℕ, zero, suc, ◌+◌, ◌-◌, ◌*◌, ◌/◌, ◌^◌, ◌≤◌, ◌<◌}
use native.Mathlib.Nat.{le_trans, le_of_eq, le_antisymm, mul_assoc, mul_comm, mul-pos, mul-le-mul_right, mul_right_comm, le_of_mul-le-mul_right}
use native.Mathlib.Omega.{arith}
use lib.Dec.{T, lit<, lit≤}
use lib.IntN.{pos, negsuc}
use lib.Ieee.{Float, nan, inf, fin, binary32, up, down, round, sum, add, sub, mul, neg, le, lt, eq, ne, of_bits, of_int}
use lib.Ieee.Fits.{down_pos}
use lib.Ieee.Exact.{HasValue}
use borrow.Author.Tests.{ltb-true, ltb-false}
use Rattle.float32.specs.Meaning.{whole, up_div, floor_of, ceil_of, sign_of, signed, unit}
use Rattle.float32.proofs.Order.{not_lt_of_le, le_of_not_lt, eq_not_lt}
use Rattle.float32.proofs.Whole.{whole_value}
use Rattle.float32.proofs.Floors.{one_more}
use Rattle.float32.proofs.Nearest.{part_exact}
use Rattle.util.specs.Constants.{zero as zero_f, one, minus_one, robust_epsilon}
use Rattle.util.specs.Span.{span_of}
use Rattle.util.specs.declared.Vec2.{Vec2}
use Rattle.panel.proofs.LimitLaws.{small}
use Rattle.exact.specs.Whole.{Small}
use Rattle.exact.specs.Reach.{coord_tiles}
use Rattle.exact.proofs.Bounds.{near_finite, finite_number, span_least}
use Rattle.walk.specs.Num.{float}
use Rattle.walk.specs.Setup.{Scaled, slope_of, counts_of, a_of, b_of}
use Rattle.walk.specs.Skip.{flat_of}
use Rattle.walk.specs.declared.kinds.Slope.{Slope}
use Rattle.walk.proofs.Counts.{counts_few}
use Rattle.errors.specs.Sizes.{parts, Is}
use Rattle.errors.proofs.Slopes.{start_in}
use Rattle.margin.proofs.Between.{Crosses, line_least, line_most, start_most}
use Rattle.margin.proofs.Stays.{last_most, last_least, low_least}
use Rattle.margin.proofs.Ends.{Grid, value_less, value_turned, value_apart, value_lt, floor_at, floor_turned, ceil_at, value_scale, times_unit, span_at_lem}
use Rattle.margin.proofs.Shares.{Side, side_of, Part, part_of, SetUp, set_up}
use Rattle.margin.proofs.Rises.{Moved, corrected, Kept, z_over, z_under}

abbrev H : ℕ
H = 8388608

-- the coordinate's limit in tiles
pub tiles_few : coord_tiles ≤ 4096
unfolding coord_tiles
tiles_few = omega (arith, small.coord)

-- ---- how far the line goes, and where it starts in its first tile
abbrev pub across : (n m : ℕ) → ℕ
across n m = m - n + (n - m)

abbrev pub col_part : Bool → ℕ → ℕ
col_part true n = n - n / 8388608 * 8388608
col_part false n = up_div n 8388608 * 8388608 - n

abbrev pub row_part : Bool → ℕ → ℕ
row_part true n = up_div n 8388608 * 8388608 - n
row_part false n = (n / 8388608 + 1) * 8388608 - n

exactly : (x : Float) (r : ℕ) → x ≡ round binary32 false r 8388608 → r ≤ 8388608 → HasValue x false r 8388608
exactly x r e b = subst (λ (y : Float). HasValue y false r 8388608) (sym e) (part_exact false r 22 (omega arith) (lit≤ tt))

module _ (s : Float) (g : Grid s) (f : T (lib.Ieee.fits binary32 s)) where
  n_few : g.S ≤ 4096 * 8388608
  n_few = omega (arith, g.most, tiles_few)

  floor_value : HasValue (floor_of s) false (g.S / 8388608 * 8388608) 8388608
  floor_value =
      subst (λ (y : Float). HasValue y false (g.S / 8388608 * 8388608) 8388608) (sym (floor_at s g.S 8388608 (lit< tt) g.is))
      (value_scale (whole false (g.S / 8388608)) false (g.S / 8388608) 8388608 (whole_value false (g.S / 8388608) (omega (arith, n_few))))

  pub col_value : (rises : Bool) → HasValue (sub binary32 (mul binary32 s (cond rises one minus_one)) (floor_of (mul binary32 s (cond rises one minus_one)))) false (col_part rises g.S) 8388608
  unfolding of_bits neg
  col_value true =
      let v = mul binary32 s (unit false) in
      let q = g.S / 8388608 in
      let i = times_unit false s g.S 8388608 f g.is in
      let j : HasValue (floor_of v) false (q * 8388608) 8388608 =
      subst (λ (y : Float). HasValue y false (q * 8388608) 8388608) (sym (floor_at v g.S 8388608 (lit< tt) i))
      (value_scale (whole false q) false q 8388608 (whole_value false q (omega (arith, n_few)))) in
      exactly (sub binary32 v (floor_of v)) (g.S - q * 8388608) (value_less v (floor_of v) g.S (q * 8388608) 8388608 (lit< tt) i j (omega arith)) (omega arith)
  col_value false =
      let v = mul binary32 s (unit true) in
      let u = up_div g.S 8388608 in
      let i = times_unit true s g.S 8388608 f g.is in
      let j : HasValue (floor_of v) true (u * 8388608) 8388608 =
      subst (λ (y : Float). HasValue y true (u * 8388608) 8388608) (sym (floor_turned v g.S 8388608 (lit< tt) i))
      (value_scale (whole true u) true u 8388608 (whole_value true u (omega (arith, n_few)))) in
      exactly (sub binary32 v (floor_of v)) (u * 8388608 - g.S) (value_turned v (floor_of v) g.S (u * 8388608) 8388608 (lit< tt) i j (omega arith)) (omega arith)

  pub row_value : (same : Bool) → HasValue (sub binary32 (cond same (ceil_of s) (add binary32 (floor_of s) one)) s) false (row_part same g.S) 8388608
  unfolding of_bits
  row_value true =
      let u = up_div g.S 8388608 in
      let j : HasValue (ceil_of s) false (u * 8388608) 8388608 =
      subst (λ (y : Float). HasValue y false (u * 8388608) 8388608) (sym (ceil_at s g.S 8388608 (lit< tt) g.is))
      (value_scale (whole false u) false u 8388608 (whole_value false u (omega (arith, n_few)))) in
      exactly (sub binary32 (ceil_of s) s) (u * 8388608 - g.S) (value_less (ceil_of s) s (u * 8388608) g.S 8388608 (lit< tt) j g.is (omega arith)) (omega arith)
  row_value false =
      let q = g.S / 8388608 in
      let e : add binary32 (floor_of s) (unit false) ≡ whole false (q + 1) =
      ap (λ (y : Float). add binary32 y (unit false)) (floor_at s g.S 8388608 (lit< tt) g.is) ∙ one_more false (whole false q) q (whole_value false q (omega (arith, n_few))) in
      let y = add binary32 (floor_of s) (unit false) in
      let j : HasValue y false ((q + 1) * 8388608) 8388608 =
      subst (λ (y : Float). HasValue y false ((q + 1) * 8388608) 8388608) (sym e) (value_scale (whole false (q + 1)) false (q + 1) 8388608 (whole_value false (q + 1) (omega (arith, n_few)))) in
      exactly (sub binary32 y s) ((q + 1) * 8388608 - g.S) (value_less y s ((q + 1) * 8388608) g.S 8388608 (lit< tt) j g.is (omega arith)) (omega arith)

-- ---- what is 1 at most has parts at most
parts_most : (x : Float) (n : ℕ) → Is x n → Small x 1 → n ≤ parts
parts_most nan n v h = absurd v
parts_most (inf s) n v h = absurd v
parts_most (fin s m e) n v h =
    le_of_mul-le-mul_right
    (le_trans (le_of_eq (sym v.1)) (le_trans (mul-le-mul_right parts h) (le_of_eq (ap (λ (z : ℕ). z * parts) (native.Mathlib.Nat.one-mul (down e)) ∙ mul_comm (down e) parts)))) (down_pos e)

number_value : (i : ℕ) → i ≤ 2 ^ 24 → HasValue (float i) false i 1
unfolding of_int
number_value i h = whole_value false i h

epsilon_is : (s : Bool) → signed s robust_epsilon ≡ fin s 14073749 (negsuc 45)
unfolding signed of_bits
epsilon_is s = refl

-- ---- nothing
none_at : (x : Float) (n : ℕ) → x ≡ round binary32 false n 8388608 → n ≡ 0 → x ≡ fin false 0 (pos 0)
unfolding round
none_at x n e z = e ∙ ap (λ (k : ℕ). round binary32 false k 8388608) z

none_sum : eq (add binary32 (fin false 0 (pos 0)) (fin false 0 (pos 0))) zero_f ≡ true
unfolding add sum round eq of_bits
none_sum = refl

top : (A M X L : ℕ) → 0 < M → X ≤ M → A * M * 16777216 ≤ X * L * 16777230 → A * 16777216 ≤ 16777232 * L
top A M X L p x h =
    le_of_mul-le-mul_right {k = M}
    (last (A * 16777216 * M) (A * M * 16777216) (X * L) (M * L) (16777232 * L * M) (L * M) (mul_right_comm A 16777216 M) h (mul-le-mul_right L x) (mul_comm M L) (mul_assoc 16777232 L M)) p
  where
    last : (a b xl ml c lm : ℕ) → a ≡ b → b ≤ xl * 16777230 → xl ≤ ml → ml ≡ lm → c ≡ 16777232 * lm → a ≤ c
    last a b xl ml c lm e f g h k = omega arith

-- ---- the numbers of a line
module _ (s0 s1 : Vec2) (h : Scaled s0) (k : Scaled s1) (ordered : lt s1.y s0.y ≡ false) (gx0 : Grid s0.x) (gx1 : Grid s1.x) (gy0 : Grid s0.y) (gy1 : Grid s1.y) where
  abbrev A0 : ℕ
  A0 = gx0.S

  abbrev A1 : ℕ
  A1 = gx1.S

  abbrev B0 : ℕ
  B0 = gy0.S

  abbrev B1 : ℕ
  B1 = gy1.S

  abbrev rises : Bool
  rises = le s0.x s1.x

  abbrev same : Bool
  same = eq s0.y s1.y

  pub rows_ordered : B0 ≤ B1
  rows_ordered = ltb-false B1 B0 (sym (value_lt s1.y s0.y B1 B0 8388608 (lit< tt) gy1.is gy0.is) ∙ ordered)

  pub rising : rises ≡ true → A0 ≤ A1
  rising e = ltb-false A1 A0 (sym (value_lt s1.x s0.x A1 A0 8388608 (lit< tt) gx1.is gx0.is) ∙ not_lt_of_le s0.x s1.x e)

  pub falling : rises ≡ false → A1 < A0
  falling e = go (lt s1.x s0.x) refl
    where
      go : (t : Bool) → lt s1.x s0.x ≡ t → A1 < A0
      go true l = ltb-true A1 A0 (sym (value_lt s1.x s0.x A1 A0 8388608 (lit< tt) gx1.is gx0.is) ∙ l)
      go false l = absurd (true≢false (sym (le_of_not_lt s0.x s1.x (finite_number s0.x (near_finite s0.x h.in_x)) (finite_number s1.x (near_finite s1.x k.in_x)) l) ∙ e))

  level : same ≡ true → B1 ≤ B0
  level e = ltb-false B0 B1 (sym (value_lt s0.y s1.y B0 B1 8388608 (lit< tt) gy0.is gy1.is) ∙ eq_not_lt s0.y s1.y e)

  abbrev X : ℕ
  X = across A0 A1

  abbrev Y : ℕ
  Y = B1 - B0

  abbrev C : ℕ
  C = col_part rises A0

  abbrev R : ℕ
  R = row_part same B0

  abbrev cx : ℕ
  cx = span_of s0.x s1.x - 1

  abbrev j : ℕ
  j = span_of s0.y s1.y - 1

  pub cols_rising : A0 ≤ A1 → cx ≡ up_div A1 8388608 - A0 / 8388608 - 1
  cols_rising = (span_at_lem s0.x s1.x A0 A1 h.in_x k.in_x gx0.is gx1.is gx0.most gx1.most).0

  pub cols_falling : A1 ≤ A0 → cx ≡ up_div A0 8388608 - A1 / 8388608 - 1
  cols_falling = (span_at_lem s0.x s1.x A0 A1 h.in_x k.in_x gx0.is gx1.is gx0.most gx1.most).1

  pub rows_are : j ≡ up_div B1 8388608 - B0 / 8388608 - 1
  rows_are = (span_at_lem s0.y s1.y B0 B1 h.in_y k.in_y gy0.is gy1.is gy0.most gy1.most).0 rows_ordered

  cols_by : (r : Bool) → rises ≡ r → (cx * 8388608 ≤ col_part r A0 + X) × (col_part r A0 + X ≤ cx * 8388608 + 8388608) × (col_part r A0 ≤ 8388608)
  cols_by true e = let l = rising e in let c = cols_rising l in (omega arith, omega arith, omega arith)
  cols_by false e = let l = falling e in let c = cols_falling (omega arith) in (omega arith, omega arith, omega arith)

  rows_by_lem : (t : Bool) → same ≡ t → (Y ≤ row_part t B0 + j * 8388608) × (row_part t B0 + j * 8388608 ≤ Y + 8388608) × (row_part t B0 ≤ 8388608)
  rows_by_lem true e = let l = level e in let o = rows_ordered in let c = rows_are in (omega arith, omega arith, omega arith)
  rows_by_lem false e = let o = rows_ordered in let c = rows_are in (omega arith, omega arith, omega arith)

  crosses : Crosses X Y C R cx j 8388608
  crosses =
      let a = cols_by rises refl in
      let b = rows_by_lem same refl in
      record { cols_least = a.0; cols_most = a.1; rows_least = b.0; rows_most = b.1; c_in = a.2; t_in = b.2 }

  -- ---- in parts
  abbrev m : Slope
  m = slope_of s0 s1

  dx_is : m.dx ≡ round binary32 false X 8388608
  unfolding slope_of
  dx_is = value_apart s1.x s0.x A1 A0 8388608 (lit< tt) gx1.is gx0.is

  dy_is : m.dy ≡ round binary32 false Y 8388608
  unfolding slope_of
  dy_is = value_less s1.y s0.y B1 B0 8388608 (lit< tt) gy1.is gy0.is rows_ordered

  dx_side : Side m.dx X
  dx_side = side_of m.dx X dx_is (omega (arith, gx0.most, gx1.most, tiles_few))

  dy_side : Side m.dy Y
  dy_side = side_of m.dy Y dy_is (omega (arith, gy1.most, tiles_few))

  c_part : Part m.c C
  unfolding slope_of
  c_part = part_of m.c C (col_value s0.x gx0 h.in_x.fit rises) crosses.c_in

  t_part : Part (sub binary32 m.ytop s0.y) R
  unfolding slope_of
  t_part = part_of (sub binary32 m.ytop s0.y) R (row_value s0.y gy0 h.in_y.fit same) crosses.t_in

  -- a line that isn't skipped has some length
  flat_when : X ≡ 0 → Y ≡ 0 → flat_of s0 s1 ≡ true
  unfolding flat_of slope_of
  flat_when e f = rw (none_at m.dx X dx_is e, none_at m.dy Y dy_is f, none_sum) refl

  pub some : flat_of s0 s1 ≡ false → 1 ≤ X + Y
  some e = go X Y refl refl
    where
      go : (x y : ℕ) → X ≡ x → Y ≡ y → 1 ≤ X + Y
      go zero zero p q = absurd (true≢false (sym (flat_when p q) ∙ e))
      go zero (suc y) p q = omega arith
      go (suc x) y p q = omega arith

  pub count_is : (counts_of s0 s1).count ≡ cx + (j + 1)
  unfolding counts_of
  count_is = omega (arith, span_least s0.y s1.y)

  steps_few : cx + j ≤ 16384
  steps_few = omega (arith, (counts_few s0 s1 h k).most, count_is, tiles_few)

  module _ (long : 1 ≤ X + Y) where
    su : SetUp (mul binary32 m.dx m.idxdy) (b_of m s0) X Y C R
    unfolding slope_of b_of
    su =
        set_up m.dx m.dy m.c (sub binary32 m.ytop s0.y) X Y C R dx_side dy_side c_part t_part long
        (le_trans (start_most X Y C R cx j 8388608 crosses) (le_of_eq (mul_comm (X + Y) 8388608)))

    a_in : su.A * 16777216 ≤ 16777232 * parts
    a_in = top su.A (X + Y) X parts (omega arith) (omega arith) su.a_near.high

    b_in : su.B ≤ parts
    b_in = parts_most (b_of m s0) su.B su.is_b (start_in s0 s1 h k ordered).most

    moved : Moved (a_of m (counts_of s0 s1) (b_of m s0)) su.A
    unfolding a_of
    moved =
        subst (λ (y : Float). Moved (cond (ne err zero_f) (sub binary32 a0 y) a0) su.A) (sym (epsilon_is (sign_of err)))
        (corrected a0 su.A su.is_a a_in (ne err zero_f) (sign_of err))
      where
        a0 : Float
        a0 = mul binary32 m.dx m.idxdy

        err : Float
        err = sub binary32 (floor_of (add binary32 (mul binary32 a0 (sub binary32 (float (counts_of s0 s1).count) one)) (b_of m s0))) (float (counts_of s0 s1).count_x)

    kept_by : (i : ℕ) → i ≤ cx + j → Moved (a_of m (counts_of s0 s1) (b_of m s0)) su.A → Kept (add binary32 (mul binary32 (a_of m (counts_of s0 s1) (b_of m s0)) (float i)) (b_of m s0)) i cx (j + 1)
    kept_by i l (inl o) =
        z_over (a_of m (counts_of s0 s1) (b_of m s0)) (b_of m s0) (float i) su.A su.B (cx + j) cx (j + 1) i su.is_b (number_value i (omega (arith, steps_few))) b_in a_in steps_few l
        (omega arith) o
        (last_most parts (X + Y) 8388608 X (Y * C + X * R) (cx + j) cx wide steps_few (omega arith) (start_most X Y C R cx j 8388608 crosses) (line_least X Y C R cx j 8388608 crosses)
        (line_most X Y C R cx j 8388608 crosses) su.A su.B su.a_near su.b_near o.K o.high)
        (last_least parts (X + Y) 8388608 X (Y * C + X * R) (cx + j) cx wide steps_few (omega arith) (start_most X Y C R cx j 8388608 crosses) (line_least X Y C R cx j 8388608 crosses)
        (line_most X Y C R cx j 8388608 crosses) su.A su.B su.a_near su.b_near o.K o.low)
      where
        wide : 0 < (X + Y) * 8388608
        wide = mul-pos long (lit< tt)
    kept_by i l (inr o) =
        z_under (a_of m (counts_of s0 s1) (b_of m s0)) (b_of m s0) (float i) su.A su.B (cx + j) cx (j + 1) i su.is_b (number_value i (omega (arith, steps_few))) b_in a_in steps_few l
        (omega arith) o
        (low_least parts (X + Y) 8388608 X (Y * C + X * R) (cx + j) cx (mul-pos long (lit< tt)) steps_few (omega arith) (start_most X Y C R cx j 8388608 crosses)
        (line_least X Y C R cx j 8388608 crosses) (line_most X Y C R cx j 8388608 crosses) su.A su.B su.a_near su.b_near o.K o.few o.most)

  pub line_kept : flat_of s0 s1 ≡ false → (i : ℕ) → i < (counts_of s0 s1).count → Kept (add binary32 (mul binary32 (a_of m (counts_of s0 s1) (b_of m s0)) (float i)) (b_of m s0)) i cx (j + 1)
  line_kept e i l = kept_by (some e) i (omega (arith, count_is)) (moved (some e))
