-- A line whose ends in tiles lie within the edges of a checked box is within the limit of a coordinate. Assumes nothing.
--     columns       what lies between a box's edges is small
--     ends_reach    so the line passes the check of a coordinate
use Prim.Native.Nat.{ℕ, ◌+◌, ◌*◌, ◌≤◌, ◌<◌}
use native.Mathlib.Nat.{zero-mul, eq_of_mul-eq-mul_right}
use native.Mathlib.Omega.{arith}
use mathlib.Core.Path.{◌≡◌, refl, sym, ◌∙◌, subst}
use mathlib.Core.Bool.{Bool, true, false, not, cond, ◌||◌, true≢false, false≢true}
use lib.Dec.{T}
use lib.IntN.{ℤ}
use lib.Ieee.{Float, nan, inf, fin, binary32, up, down, lt, le, eq, fits, is_nan, of_bits, mul}
use lib.Ieee.Fits.{down_pos}
use lib.Ieee.Exact.{HasValue}
use lib.Ieee.Scale.{finite}
use borrow.Author.Tests.{ltb-false}
use Rattle.float32.proofs.Floors.{gt_plus}
use Rattle.float32.proofs.Order.{not_lt_of_le, le_left, le_right}
use Rattle.float32.proofs.MinMax.{le_of_lt}
use Rattle.util.specs.Constants.{tile_scale}
use Rattle.util.specs.Vec.{scale_of}
use Rattle.util.specs.declared.Vec2.{Vec2}
use Rattle.panel.specs.Limits.{edge_most}
use Rattle.panel.specs.declared.kinds.Path.{Path}
use Rattle.exact.specs.Whole.{Small}
use Rattle.exact.specs.Reach.{in_reach, scaled, coord_tiles}
use Rattle.exact.proofs.Limits.{far}
use Rattle.exact.proofs.Less.{nat_value}
use Rattle.exact.proofs.Bounds.{small_finite, small_more, reach_finite}
use Rattle.exact.proofs.Ordered.{scaled_order}
use Rattle.exact.proofs.Reaches.{scaled_reach}
use Rattle.walk.specs.Num.{float}
use Rattle.walk.specs.Setup.{ends_of}
use Rattle.walk.specs.Step.{Boxed}
use Rattle.walk.specs.Lent.{Reached}
use Rattle.walk.specs.Around.{least_of, last_of}
use Rattle.inside.proofs.NotBelow.{not_below}
use Rattle.inside.proofs.Compared.{Told}

-- ---- no infinity lies beside a whole number
minus_inf : (n : ℕ) (y : Float) → HasValue y false n 1 → lt (inf true) y ≡ false → ⊥
unfolding lt
minus_inf n nan v h = v
minus_inf n (inf t) v h = v
minus_inf n (fin t m e) v h = true≢false h

plus_inf : (n : ℕ) (y : Float) → HasValue y false n 1 → lt y (inf false) ≡ false → ⊥
unfolding lt
plus_inf n nan v h = v
plus_inf n (inf t) v h = v
plus_inf n (fin t m e) v h = true≢false h

under : (y : Float) → T (finite y) → lt (inf true) y ≡ false → ⊥
unfolding lt
under nan f h = f
under (inf t) f h = f
under (fin t m e) f h = true≢false h

-- in tiles a NaN is one, and an infinity
no_number : T (not (is_nan (scaled nan))) → ⊥
unfolding mul is_nan
no_number k = k

scaled_inf : scaled (inf false) ≡ inf false
unfolding mul of_bits
scaled_inf = refl

-- what is not below a number from 0 up is no size below 0
none : (A F B : ℕ) → 0 < F → A * F + B ≤ 0 → A ≤ 0
none A F B p h =
    let e : A * F ≡ 0 = omega arith in
    let d : A ≡ 0 = eq_of_mul-eq-mul_right F p A 0 (e ∙ sym (zero-mul F)) in
    omega arith

no_size : (n m : ℕ) (e : ℤ) (y : Float) → HasValue y false n 1 → lt (fin true m e) y ≡ false → m * up e ≤ 0
unfolding lt
no_size n m e nan v h = absurd v
no_size n m e (inf t) v h = absurd v
no_size n m e (fin true j d) v h = absurd (true≢false v.0)
no_size n m e (fin false j d) v h = none (m * up e) (down d) (j * up d * down e) (down_pos d) (ltb-false 0 (m * up e * down d + j * up d * down e) h)

-- ---- what lies between the edges n and N of a box
module _ (n N : ℕ) (from : n ≤ edge_most) (to : N ≤ edge_most) where
  low : HasValue (float n) false n 1
  low = nat_value n (omega (arith, far.edge))

  high : HasValue (float N) false N 1
  high = nat_value N (omega (arith, far.edge))

  held : (x : Float) → T (not (is_nan x)) → lt x (float n) ≡ false → lt (float N) x ≡ false → Small x N
  held nan k g h = absurd (unfold is_nan in k)
  held (inf true) k g h = minus_inf n (float n) low g
  held (inf false) k g h = plus_inf N (float N) high h
  held (fin false m e) k g h = ltb-false (N * down e) (m * up e) (sym (gt_plus m e (float N) N high) ∙ h)
  held (fin true m e) k g h = omega (arith, no_size n m e (float n) low g)

  small : (x : Float) → T (not (is_nan x)) → lt x (float n) ≡ false → lt (float N) x ≡ false → Small x coord_tiles
  small x k g h = small_more x N coord_tiles (omega (arith, far.reach)) (held x k g h)

  -- what is below something, and not below n
  low_finite : (a b : Float) → lt a b ≡ true → lt a (float n) ≡ false → T (finite a)
  unfolding lt
  low_finite nan b h g = absurd (false≢true h)
  low_finite (inf true) b h g = absurd (minus_inf n (float n) low g)
  low_finite (inf false) nan h g = absurd (false≢true h)
  low_finite (inf false) (inf t) h g = absurd (false≢true h)
  low_finite (inf false) (fin t m e) h g = absurd (false≢true h)
  low_finite (fin s m e) b h g = tt

  -- two columns, by the smaller and the larger; a NaN would pass the picks where it is the second
  columns : (a b : Float) → le (float n) (least_of a b) ≡ true → le (last_of a b) (float N) ≡ true → le b (float N) ≡ true → Small a coord_tiles × Small b coord_tiles
  columns a b least last end = go (lt b a) (lt a b) refl refl least last
    where
      number : T (not (is_nan b))
      number = le_left b (float N) end

      not_over : lt (float N) b ≡ false
      not_over = not_lt_of_le b (float N) end

      go : (q p : Bool) → lt b a ≡ q → lt a b ≡ p → le (float n) (cond q b a) ≡ true → le (cond p b a) (float N) ≡ true → Small a coord_tiles × Small b coord_tiles
      go true true h k l r = absurd (true≢false (sym k ∙ not_lt_of_le b a (le_of_lt b a h)))
      go true false h k l r =
          let f = not_lt_of_le (float n) b l in
          let t = small b number f not_over in
          (small a (le_left a (float N) r) (not_below a b (float n) (small_finite b coord_tiles t) k f) (not_lt_of_le a (float N) r), t)
      go false true h k l r =
          let f = not_lt_of_le (float n) a l in
          let t = small b number (not_below b a (float n) (low_finite a b k f) h f) not_over in
          (small a (le_right (float n) a l) f (not_below (float N) b a (small_finite b coord_tiles t) not_over h), t)
      go false false h k l r =
          let f = not_lt_of_le (float n) a l in
          let t = small a (le_right (float n) a l) f (not_lt_of_le a (float N) r) in
          (t, small b number (not_below b a (float n) (small_finite a coord_tiles t) h f) not_over)

  -- two rows in order: the upper one is within the limit, and so the lower one is finite and within it too
  module _ (u l : Float) (fits_u : T (fits binary32 u)) (fits_l : T (fits binary32 l)) (order : lt l u ≡ false) (top : le (float n) (scaled u) ≡ true)
      (before : lt (scaled u) (float N) ≡ true) (bottom : le (scaled l) (float N) ≡ true) where
    upper : Small (scaled u) coord_tiles
    upper = small (scaled u) (le_right (float n) (scaled u) top) (not_lt_of_le (float n) (scaled u) top) (not_lt_of_le (scaled u) (float N) (le_of_lt (scaled u) (float N) before))

    pub upper_reach : in_reach u ≡ true
    upper_reach = scaled_reach u fits_u upper

    lower_finite : (l : Float) → lt l u ≡ false → le (scaled l) (float N) ≡ true → T (finite l)
    lower_finite nan o h = absurd (no_number (le_left (scaled nan) (float N) h))
    lower_finite (inf true) o h = absurd (under u (reach_finite u upper_reach) o)
    lower_finite (inf false) o h = absurd (plus_inf N (float N) high (subst (λ (y : Float). lt (float N) y ≡ false) scaled_inf (not_lt_of_le (scaled (inf false)) (float N) h)))
    lower_finite (fin s m e) o h = tt

    pub lower_reach : in_reach l ≡ true
    lower_reach =
        let f = scaled_order u l (reach_finite u upper_reach) (lower_finite l order bottom) order in
        scaled_reach l fits_l
        (small (scaled l) (le_left (scaled l) (float N) bottom) (not_below (scaled l) (scaled u) (float n) (small_finite (scaled u) coord_tiles upper) f (not_lt_of_le (float n) (scaled u) top))
        (not_lt_of_le (scaled l) (float N) bottom))

-- ---- a line
not_lt_of_not_le : (x y : Float) → le x y ≡ false → lt x y ≡ false
unfolding le
not_lt_of_not_le x y h = go (lt x y) refl h
  where
    go : (t : Bool) → lt x y ≡ t → (t || eq x y) ≡ false → t ≡ false
    go true e k = absurd (true≢false k)
    go false e k = refl

module _ (p0 p1 : Vec2) (b : Path) (box : Boxed b) (x0 : T (fits binary32 p0.x)) (y0 : T (fits binary32 p0.y)) (x1 : T (fits binary32 p1.x)) (y1 : T (fits binary32 p1.y)) where
  left_in : b.x0 ≤ edge_most
  left_in = omega (arith, box.left, box.wide)

  top_in : b.y0 ≤ edge_most
  top_in = omega (arith, box.top, box.high)

  pub ends_reach : Told (ends_of p0 p1).s0 (ends_of p0 p1).s1 b → Reached p0 p1
  unfolding ends_of
  ends_reach t = go (le p0.y p1.y) refl t
    where
      go : (d : Bool) → le p0.y p1.y ≡ d → Told (scale_of (cond d p0 p1) tile_scale) (scale_of (cond d p1 p0) tile_scale) b → Reached p0 p1
      go true e t =
          let c = columns b.x0 b.x1 left_in box.wide (scaled p0.x) (scaled p1.x) t.left t.right t.end_right in
          let o = not_lt_of_le p0.y p1.y e in
          rw (
            scaled_reach p0.x x0 c.0,
            scaled_reach p1.x x1 c.1,
            upper_reach b.y0 b.y1 top_in box.high p0.y p1.y y0 y1 o t.top t.before_bottom t.bottom,
            lower_reach b.y0 b.y1 top_in box.high p0.y p1.y y0 y1 o t.top t.before_bottom t.bottom,
          )
      go false e t =
          let c = columns b.x0 b.x1 left_in box.wide (scaled p1.x) (scaled p0.x) t.left t.right t.end_right in
          let o = not_lt_of_not_le p0.y p1.y e in
          rw (
            scaled_reach p1.x x1 c.0,
            scaled_reach p0.x x0 c.1,
            upper_reach b.y0 b.y1 top_in box.high p1.y p0.y y1 y0 o t.top t.before_bottom t.bottom,
            lower_reach b.y0 b.y1 top_in box.high p1.y p0.y y1 y0 o t.top t.before_bottom t.bottom,
          )
