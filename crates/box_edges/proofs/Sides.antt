-- A step's tile by the edges of its path's box as floats: the tests by floats are those by whole numbers, and what passes them is cast without loss. Assumes nothing.
--     between          of a whole number rounded to a float, at any size
--     beyond           of what is no number, nothing passes
--     step_passed, step_failed    so of a step's column and row
use mathlib.Core.Path.{◌≡◌, refl, sym, ap, ◌∙◌, subst}
use mathlib.Core.Bool.{Bool, true, false, not, ◌&&◌, false≢true}
use mathlib.Core.Logic.{◌⊎◌, inl, inr}
use Prim.Native.Nat.{ℕ, ◌+◌, ◌*◌, ◌^◌, ◌≤◌, ◌<◌}
use native.Mathlib.Nat.{mul-pos}
use native.Mathlib.Omega.{arith}
use lib.Dec.{T, ltb, leb, lit<, lit≤}
use lib.IntN.{ℤ, pos, negsuc, ◌+ℤ◌, ◌-ℤ◌, nat_abs}
use lib.Signed.{lt_z}
use lib.Ieee.{Float, nan, inf, fin, binary32, up, down, add, sub, mul, lt, le, of_int, to_signed, to_unsigned, in_unsigned, is_nan}
use lib.Ieee.Fits.{down_pos}
use lib.Ieee.Bits.{is_true}
use lib.Ieee.Exact.{HasValue}
use lib.Ieee.Scale.{finite}
use lib.Ieee.Order.{round_mono}
use borrow.Author.Tests.{lt-ltb, le-ltb, le-leb, lt-leb, ltb-false}
use Rattle.float32.specs.Meaning.{whole, signed, unit}
use Rattle.float32.proofs.Whole.{whole_value}
use Rattle.float32.proofs.Order.{not_lt_of_le, le_right}
use Rattle.float32.proofs.Floors.{lt_plus}
use Rattle.float32.proofs.Tests.{below_or_not}
use Rattle.util.specs.Constants.{zero}
use Rattle.panel.specs.Widths.{step_range}
use Rattle.panel.specs.declared.kinds.Path.{Path}
use Rattle.exact.specs.Whole.{IsWhole, Rounded, turn}
use Rattle.exact.specs.Reach.{Starts}
use Rattle.exact.proofs.Signs.{abs_signed, abs_sum}
use Rattle.exact.proofs.Exact.{nat_whole, whole_cast, add_rounded, sub_rounded, add_whole, rounded_whole, round_signed, large_cast}
use Rattle.exact.proofs.Compare.{lt_whole}
use Rattle.exact.proofs.Limits.{far}
use Rattle.walk.specs.Num.{float, cut_of, inside_of}
use Rattle.walk.specs.Step.{Boxed, z_at, tile_in, step_of}
use Rattle.walk.specs.declared.kinds.Pace.{Pace}
use Rattle.box_edges.specs.Edges.{edges_of}
use Rattle.box_edges.specs.declared.Edges.{Edges}
use Rattle.panel.proofs.BoolLaws.{both}
use Rattle.walk.proofs.Boxes.{ok_of, inside_bounds}
use Rattle.walk.proofs.StepTiles.{z_fits, z_whole, z_whole_lem, turned_whole}
use Rattle.box_edges.proofs.Zeros.{zero_cast}

-- the test in the code
abbrev pub between_of : Float → (lo hi : Float) → Bool
between_of v lo hi = not (lt v lo) && lt v hi

-- ---- whole numbers
flip_lt : (a b : ℕ) → leb a b ≡ not (ltb b a)
flip_lt a b = go (below_or_not b a)
  where
    go : (b < a) ⊎ (a ≤ b) → leb a b ≡ not (ltb b a)
    go (inl h) = lt-leb a b h ∙ ap not (sym (lt-ltb b a h))
    go (inr h) = le-leb a b h ∙ ap not (sym (le-ltb b a h))

inside_is : (n : ℤ) (lo hi : ℕ) → inside_of n lo hi ≡ (not (lt_z n (pos lo)) && lt_z n (pos hi))
unfolding inside_of
inside_is (pos n) lo hi = ap (λ (q : Bool). q && ltb n hi) (flip_lt lo n)
inside_is (negsuc n) lo hi = refl

-- a number that passes is small
inside_most : (n : ℤ) (lo hi : ℕ) → hi ≤ nat_abs n → inside_of n lo hi ≡ false
unfolding inside_of
inside_most (pos n) lo hi h = ap (λ (q : Bool). leb lo n && q) (le-ltb n hi h) ∙ none (leb lo n)
  where
    none : (q : Bool) → (q && false) ≡ false
    none true = refl
    none false = refl
inside_most (negsuc n) lo hi h = refl

-- ---- large ones: the sign alone tells
large_minus : (y w : Float) (n : ℕ) → HasValue w false n 1 → le (whole false (2 ^ 24)) (signed false y) ≡ true → lt (signed true y) w ≡ true
unfolding lt signed
large_minus nan w n h g = absurd (unfold is_nan in le_right (whole false (2 ^ 24)) nan g)
large_minus (inf t) nan n h g = absurd h
large_minus (inf t) (inf s) n h g = absurd h
large_minus (inf t) (fin s a d) n h g = refl
large_minus (fin t m e) nan n h g = absurd h
large_minus (fin t m e) (inf s) n h g = absurd h
large_minus (fin t m e) (fin true a d) n h g = absurd (false≢true (sym h.0))
large_minus (fin t m e) (fin false a d) n h g =
    let k : 2 ^ 24 * down e ≤ m * up e = ltb-false (m * up e) (2 ^ 24 * down e)
    (sym (lt_plus m e (whole false (2 ^ 24)) (2 ^ 24) (whole_value false (2 ^ 24) (lit≤ tt))) ∙ not_lt_of_le (whole false (2 ^ 24)) (fin false m e) g) in
    lt-ltb 0 (m * up e * down d + a * up d * down e) (some (m * up e * down d) (a * up d * down e) (mul-pos (least (m * up e) (down e) (down_pos e) k) (down_pos d)))
  where
    least : (x y : ℕ) → 0 < y → 2 ^ 24 * y ≤ x → 0 < x
    least x y p q = omega arith

    some : (a b : ℕ) → 0 < a → 0 < a + b
    some a b p = omega arith

none_last : (q : Bool) → (q && false) ≡ false
none_last true = refl
none_last false = refl

beyond_large : (s : Bool) (k lo hi : ℕ) → lo ≤ 2 ^ 20 → hi ≤ 2 ^ 20 → 2 ^ 24 ≤ k → between_of (whole s k) (float lo) (float hi) ≡ false
unfolding of_int
beyond_large false k lo hi a b h =
    ap (λ (q : Bool). not (lt (whole false k) (whole false lo)) && q)
    (not_lt_of_le (whole false hi) (whole false k) (is_true (le (whole false hi) (whole false k)) (round_mono binary32 hi 1 k 1 (lit< tt) (lit< tt) (omega arith))))
    ∙ none_last (not (lt (whole false k) (whole false lo)))
beyond_large true k lo hi a b h =
    let r : le (whole false (2 ^ 24)) (whole false k) ≡ true = is_true (le (whole false (2 ^ 24)) (whole false k)) (round_mono binary32 (2 ^ 24) 1 k 1 (lit< tt) (lit< tt) (omega arith)) in
    let m : lt (signed true (whole false k)) (whole false lo) ≡ true = large_minus (whole false k) (whole false lo) lo (whole_value false lo (omega arith))
    (subst (λ (y : Float). le (whole false (2 ^ 24)) y ≡ true) (round_signed false k 1) r) in
    ap (λ (q : Bool). not q && lt (whole true k) (whole false hi)) (ap (λ (y : Float). lt y (whole false lo)) (round_signed true k 1) ∙ m)

-- ---- a whole number, rounded to a float: the tests agree at any size
pub between : (v : Float) (n : ℤ) (lo hi : ℕ) → lo ≤ 2 ^ 20 → hi ≤ 2 ^ 20 → Rounded v n → inside_of (to_signed 31 v) lo hi ≡ between_of v (float lo) (float hi)
between v n lo hi a b r = go (below_or_not r.1 (2 ^ 24))
  where
    size : nat_abs n ≡ r.1
    size = ap nat_abs r.3 ∙ abs_signed r.0 r.1

    go : (r.1 < 2 ^ 24) ⊎ (2 ^ 24 ≤ r.1) → inside_of (to_signed 31 v) lo hi ≡ between_of v (float lo) (float hi)
    go (inl h) =
        let w : IsWhole v n = rounded_whole v n r (omega (arith, size)) in
        ap (λ (m : ℤ). inside_of m lo hi) (whole_cast v n w (omega (arith, size)))
        ∙ inside_is n lo hi
        ∙ ap (λ (q : Bool). not q && lt_z n (pos hi)) (sym (lt_whole v (float lo) n (pos lo) w (nat_whole lo (omega arith))))
        ∙ ap (λ (q : Bool). not (lt v (float lo)) && q) (sym (lt_whole v (float hi) n (pos hi) w (nat_whole hi (omega arith))))
    go (inr h) =
        inside_most (to_signed 31 v) lo hi (most (subst (λ (y : Float). 2 ^ 24 ≤ nat_abs (to_signed 31 y)) (sym r.2) (large_cast r.0 r.1 h)))
        ∙ sym (ap (λ (y : Float). between_of y (float lo) (float hi)) r.2 ∙ beyond_large r.0 r.1 lo hi a b h)
      where
        most : (2 ^ 24 ≤ nat_abs (to_signed 31 v)) → hi ≤ nat_abs (to_signed 31 v)
        most g = omega arith

-- what passes is that whole number
pub passes : (v : Float) (n : ℤ) (lo hi : ℕ) → lo ≤ 2 ^ 20 → hi ≤ 2 ^ 20 → Rounded v n → between_of v (float lo) (float hi) ≡ true → IsWhole v n × (nat_abs n < 2 ^ 24)
passes v n lo hi a b r q = go (below_or_not r.1 (2 ^ 24))
  where
    size : nat_abs n ≡ r.1
    size = ap nat_abs r.3 ∙ abs_signed r.0 r.1

    go : (r.1 < 2 ^ 24) ⊎ (2 ^ 24 ≤ r.1) → IsWhole v n × (nat_abs n < 2 ^ 24)
    go (inl h) = (rounded_whole v n r (omega (arith, size)), omega (arith, size))
    go (inr h) = absurd (false≢true (sym (ap (λ (y : Float). between_of y (float lo) (float hi)) r.2 ∙ beyond_large r.0 r.1 lo hi a b h) ∙ q))

-- ---- what is no number
value_beyond : (v a b : Float) (n m : ℕ) → finite v ≡ false → HasValue a false n 1 → HasValue b false m 1 → between_of v a b ≡ false
unfolding lt
value_beyond (fin s m e) a b n k f h g = absurd (false≢true (sym f))
value_beyond nan a b n k f h g = refl
value_beyond (inf true) nan b n k f h g = absurd h
value_beyond (inf true) (inf s) b n k f h g = absurd h
value_beyond (inf true) (fin s m e) b n k f h g = refl
value_beyond (inf false) a nan n k f h g = absurd g
value_beyond (inf false) a (inf s) n k f h g = absurd g
value_beyond (inf false) a (fin s m e) n k f h g = none_last (not (lt (inf false) a))

pub beyond : (v : Float) (lo hi : ℕ) → lo ≤ 2 ^ 20 → hi ≤ 2 ^ 20 → finite v ≡ false → between_of v (float lo) (float hi) ≡ false
unfolding of_int
beyond v lo hi a b f = value_beyond v (whole false lo) (whole false hi) lo hi f (whole_value false lo (omega arith)) (whole_value false hi (omega arith))

-- a column whose z is none is none
no_col : (t : Bool) (x0 : Float) (n : ℤ) (z : Float) → IsWhole x0 n → finite z ≡ false → finite (add binary32 x0 (mul binary32 (unit t) z)) ≡ false
unfolding add mul
no_col t nan n z w f = absurd w
no_col t (inf s) n z w f = absurd w
no_col t (fin s m e) n nan w f = refl
no_col t (fin s m e) n (inf r) w f = refl
no_col t (fin s m e) n (fin r a d) w f = absurd (false≢true (sym f))

-- ---- a step of a line that starts as a checked one does
-- its column and its row, as floats
abbrev pub x_at : Pace → Float → Float
x_at p z = add binary32 p.x0 (mul binary32 p.sign z)

abbrev pub y_at : Pace → ℕ → Float → Float
y_at p i z = sub binary32 (add binary32 p.y0 (float i)) z

-- the tests in the code
abbrev pub test_of : Pace → Edges → ℕ → Float → Bool
test_of p g i z = between_of (x_at p z) g.left g.right && between_of (y_at p i z) g.top g.bottom

-- what passes them: it is in the box, and its column and its row are cast without loss
pub record Passed (b : Path) (x y z : Float) : Type 0 where
  pub ok : ok_of b (to_signed 31 x) (to_signed 31 y) z ≡ true
  pub col_can : T (in_unsigned binary32 32 (add binary32 x zero))
  pub col_is : to_unsigned 32 (add binary32 x zero) ≡ cut_of (to_signed 31 x)
  pub row_can : T (in_unsigned binary32 32 (add binary32 y zero))
  pub row_is : to_unsigned 32 (add binary32 y zero) ≡ cut_of (to_signed 31 y)

module _ (p : Pace) (l : Starts p.sign p.x0 p.y0) (b : Path) (k : Boxed b) (i : ℕ) (h : i < step_range) where
  abbrev z : Float
  z = z_at p.a p.b (float i)

  abbrev x : Float
  x = x_at p z

  abbrev y : Float
  y = y_at p i z

  abbrev n : ℤ
  n = z_whole p.a p.b (float i)

  wide : b.x1 ≤ 2 ^ 20
  wide = omega (arith, k.wide, far.edge)

  high : b.y1 ≤ 2 ^ 20
  high = omega (arith, k.high, far.edge)

  near : b.x0 ≤ 2 ^ 20
  near = omega (arith, k.left, wide)

  low : b.y0 ≤ 2 ^ 20
  low = omega (arith, k.top, high)

  -- the column and the row, exact or rounded once
  x_rounded : T (finite z) → Rounded x (l.x0n +ℤ turn l.turned n)
  x_rounded f = add_rounded p.x0 (mul binary32 p.sign z) l.x0n (turn l.turned n) l.x0_whole
      (turned_whole p.sign p.x0 p.y0 l z n (z_fits p.a p.b (float i)) (z_whole_lem p.a p.b (float i) f))

  y_rounded : T (finite z) → Rounded y (l.y0n +ℤ pos i -ℤ n)
  y_rounded f =
      let s : nat_abs (l.y0n +ℤ pos i) ≤ 2 ^ 24 = omega (arith, abs_sum l.y0n (pos i), l.y0_small, far.tiles, far.steps) in
      sub_rounded (add binary32 p.y0 (float i)) z (l.y0n +ℤ pos i) n
      (add_whole p.y0 (float i) l.y0n (pos i) l.y0_whole (nat_whole i (omega (arith, far.steps))) s)
      (z_whole_lem p.a p.b (float i) f)

  -- a column that passes has a z that is a number
  x_number : between_of x (float b.x0) (float b.x1) ≡ true → finite z ≡ true
  x_number q = go (finite z) refl
    where
      go : (f : Bool) → finite z ≡ f → finite z ≡ true
      go true e = e
      go false e =
          absurd (false≢true (sym (beyond x b.x0 b.x1 near wide
          (ap (λ (u : Float). finite (add binary32 p.x0 (mul binary32 u z))) l.sign_is ∙ no_col l.turned p.x0 l.x0n z l.x0_whole e)) ∙ q))

  -- the tests by floats are those by whole numbers
  sides : ok_of b (to_signed 31 x) (to_signed 31 y) z ≡ (between_of x (float b.x0) (float b.x1) && between_of y (float b.y0) (float b.y1))
  sides = go (finite z) refl
    where
      go : (f : Bool) → finite z ≡ f → ok_of b (to_signed 31 x) (to_signed 31 y) z ≡ (between_of x (float b.x0) (float b.x1) && between_of y (float b.y0) (float b.y1))
      go true e =
          let g : T (finite z) = subst T (sym e) tt in
          rw (e, between x (l.x0n +ℤ turn l.turned n) b.x0 b.x1 near wide (x_rounded g), between y (l.y0n +ℤ pos i -ℤ n) b.y0 b.y1 low high (y_rounded g))
      go false e =
          rw (e, beyond x b.x0 b.x1 near wide (ap (λ (u : Float). finite (add binary32 p.x0 (mul binary32 u z))) l.sign_is ∙ no_col l.turned p.x0 l.x0n z l.x0_whole e))

  -- a float that passes is its cast
  is_cast : (v : Float) (m : ℤ) (lo hi : ℕ) → lo ≤ 2 ^ 20 → hi ≤ 2 ^ 20 → Rounded v m → between_of v (float lo) (float hi) ≡ true → IsWhole v
      (pos (cut_of (to_signed 31 v))) × (cut_of (to_signed 31 v) < 2 ^ 20)
  is_cast v m lo hi a c r q =
      let g = passes v m lo hi a c r q in
      let t = inside_bounds (to_signed 31 v) lo hi (between v m lo hi a c r ∙ q) in
      (subst (λ (j : ℤ). IsWhole v j) (sym (whole_cast v m g.0 (omega (arith, g.1))) ∙ t.0) g.0, omega (arith, t.2))

  passed : test_of p (edges_of b) i z ≡ true → Passed b x y z
  passed q =
      let t = both (between_of x (float b.x0) (float b.x1)) (between_of y (float b.y0) (float b.y1)) q in
      let g : T (finite z) = subst T (sym (x_number t.0)) tt in
      let u = is_cast x (l.x0n +ℤ turn l.turned n) b.x0 b.x1 near wide (x_rounded g) t.0 in
      let v = is_cast y (l.y0n +ℤ pos i -ℤ n) b.y0 b.y1 low high (y_rounded g) t.1 in
      let c = zero_cast x (cut_of (to_signed 31 x)) u.0 (omega (arith, u.1)) in
      let d = zero_cast y (cut_of (to_signed 31 y)) v.0 (omega (arith, v.1)) in
      record { ok = sides ∙ q; col_can = c.0; col_is = c.1; row_can = d.0; row_is = d.1 }

  -- by the z and the edges in hand
  module _ (g : Edges) (e : g ≡ edges_of b) (w : Float) (q : w ≡ z_at p.a p.b (float i)) where
    pub step_passed : test_of p g i w ≡ true → Passed b (x_at p w) (y_at p i w) w
    step_passed t = subst (λ (v : Float). Passed b (x_at p v) (y_at p i v) v) (sym q) (passed (rw (e, q) at t))

    pub step_failed : test_of p g i w ≡ false → ok_of b (to_signed 31 (x_at p w)) (to_signed 31 (y_at p i w)) w ≡ false
    step_failed t = subst (λ (v : Float). ok_of b (to_signed 31 (x_at p v)) (to_signed 31 (y_at p i v)) v ≡ false) (sym q) (sides ∙ rw (e, q) at t)

    -- the step by the z in hand
    pub step_is : tile_in b (to_signed 31 (x_at p w)) (to_signed 31 (y_at p i w)) w ≡ step_of p b i
    unfolding step_of
    step_is = ap (λ (v : Float). tile_in b (to_signed 31 (x_at p v)) (to_signed 31 (y_at p i v)) v) q
