-- A segment's share of a pixel, the a of fine.rs: where the segment crosses the pixel's row from left to right it is a NaN, or at most 3 * 2 ^ 21 in size.
-- The division is by x_max - x_min, and 1e-6 is taken from x_min so that this isn't 0. Far to the left of the pixel the 1e-6 is lost; but there the
-- dividend is at most the divisor. To the right of its left side the 1e-6 counts. Assumes nothing.
--     ratio        left of the pixel's left side: the dividend is at most the divisor
--     apart        right of it: the divisor is 2 ^ -21 at least
--     share_tame   both
use mathlib.Core.Path.{◌≡◌, refl, sym, ap, ◌∙◌, subst}
use mathlib.Core.Bool.{Bool, true, false, not, true≢false, false≢true}
use mathlib.Core.Logic.{inl, inr, ⊎_elim}
use Prim.Native.Nat.{ℕ, ◌+◌, ◌-◌, ◌*◌, ◌≤◌, ◌<◌}
use native.Mathlib.Nat.{le_trans, le_of_eq, mul-pos, zero-mul, mul-le-mul_right, mul-le-mul, le_of_mul-le-mul_right, eq_of_mul-eq-mul_right}
use native.Mathlib.Omega.{arith}
use lib.Dec.{T, ltb, lit<, lit≤}
use lib.Ieee.{Float, nan, inf, fin, binary32, up, down, round, add, sub, mul, div, neg, sum, lt, le, fits, is_nan, of_bits}
use lib.Ieee.Bits.{is_true, of_bits-fits}
use lib.Ieee.Fits.{down_pos, add-fits, sub-fits, mul-fits, neg-fits}
use lib.Ieee.Order.{round_mono}
use lib.Ieee.Scale.{finite}
use borrow.Author.Tests.{lt-ltb}
use Rattle.float32.specs.Meaning.{abs_of, min_of, max_of}
use Rattle.float32.proofs.Laws.{min_fits}
use Rattle.float32.proofs.Order.{not_lt_of_le}
use Rattle.float32.proofs.Tests.{below_or_not}
use Rattle.float32.proofs.MinMax.{le_of_lt, min_picks, max_picks, min_first, min_left, min_right, max_second, max_last}
use Rattle.exact.specs.Whole.{Small}
use Rattle.exact.proofs.Bounds.{small_more}
use Rattle.errors.specs.Sizes.{parts, Is}
use Rattle.errors.proofs.Sizes.{add_small, sub_small}
use Rattle.errors.proofs.Parts.{parts_pos}
use Rattle.errors.proofs.Rounds.{round_error}
use Rattle.util.specs.Constants as Number
use Rattle.sum_theorems.specs.Sums.{Tame}
use Rattle.rounded.specs.Share.{low_of, held_of, quot_of, share_of}
use Rattle.rounded.proofs.Rises.{Rd, rd_order}
use Rattle.rounded.proofs.Numbers.{one_number}
use Rattle.sum_theorems.proofs.Signed.{At, Place, Between, own_at, own_rd, sub_rd, add_rd, mul_rd, neg_at, rd_abs, at_order, at_plus, at_minus, squeeze}
use Rattle.sum_theorems.proofs.Tame.{speck, div_wild, div_under, div_wide, sub_wild_left, sub_wild_right, mul_small, half_small}

-- ---- the constants, in parts
pub zero_at : At Number.zero 0 0
unfolding of_bits
zero_at = (zero-mul parts, refl)

pub one_at : At Number.one parts 0
unfolding of_bits
one_at = (omega arith, refl)

-- ---- left of the pixel's left side

-- x ≤ v ≤ r: (v - x) / (r - x)
ratio : (x v r : Float) (px nx pv nv pr nr : ℕ) → At x px nx → At v pv nv → At r pr nr → px + nv ≤ pv + nx → pv + nr ≤ pr + nv → Tame (div binary32 (sub binary32 v x) (sub binary32 r x)) 1
ratio x v r px nx pv nv pr nr hx hv hr low high =
    let a = rd_abs (sub binary32 v x) (pv + nx) (nv + px) parts (sub_rd v x pv nv px nx hv hx) (omega (arith, low)) in
    let b = rd_abs (sub binary32 r x) (pr + nx) (nr + px) parts (sub_rd r x pr nr px nx hr hx) (omega (arith, low, high)) in
    let k = pv + nx - (nv + px) in
    let j = pr + nx - (nr + px) in
    let o : k ≤ j = omega (arith, low, high) in
    div_under (sub binary32 v x) (sub binary32 r x)
    (rw (a, b) (not_lt_of_le (round binary32 false k parts) (round binary32 false j parts)
    (is_true (le (round binary32 false k parts) (round binary32 false j parts)) (round_mono binary32 k parts j parts parts_pos parts_pos (mul-le-mul_right parts o)))))

-- r below 0, and x with it: b is r, and there is nothing to take off
pub zero_fits : T (fits binary32 Number.zero)
zero_fits = of_bits-fits binary32 0x0000_0000

pub one_fits : T (fits binary32 Number.one)
one_fits = of_bits-fits binary32 0x3f80_0000

below_one : (r : Float) → lt r Number.zero ≡ true → lt r Number.one ≡ true
unfolding lt of_bits
below_one nan h = absurd (false≢true h)
below_one (inf true) h = refl
below_one (inf false) h = absurd (false≢true h)
below_one (fin true m e) h = lt-ltb 0 (m * up e * 1 + 1 * down e) (omega (arith, down_pos e))
below_one (fin false m e) h = absurd (none (m * up e * 1) (0 * down e) (zero-mul (down e)) h)
  where
    none : (a b : ℕ) → b ≡ 0 → ltb a b ≡ true → ⊥
    none a b z h = omega (arith, z, lib.Dec.ltb→lt a b (subst T (sym h) tt))

max_none : (x : Float) → T (fits binary32 x) → lt Number.zero x ≡ false → max_of x Number.zero ≡ Number.zero
unfolding of_bits
max_none x f h = max_last x f h

-- nothing to take off
abbrev plain : Float
plain = mul binary32 Number.half (sub binary32 (mul binary32 Number.zero Number.zero) (mul binary32 Number.zero Number.zero))

plain_at : At plain 0 0
unfolding mul sub add neg sum round of_bits
plain_at = (zero-mul parts, refl)

squared_at : At (mul binary32 Number.zero Number.zero) 0 0
unfolding mul round of_bits
squared_at = (zero-mul parts, refl)

pub plus_at : (x : Float) (p n : ℕ) → At x p n → n ≤ p → At x p 0
plus_at x p n h l = subst (λ (k : ℕ). At x p k) (at_plus x p n h l) h

pub minus_at : (x : Float) (p n : ℕ) → At x p n → p ≤ n → At x 0 n
minus_at x p n h l = subst (λ (k : ℕ). At x k n) (at_minus x p n h l) h

pub at_number : (x : Float) (p n : ℕ) → At x p n → T (not (is_nan x))
unfolding is_nan
at_number nan p n h = absurd h
at_number (inf s) p n h = absurd h
at_number (fin s m e) p n h = tt

pub at_finite : (x : Float) (p n : ℕ) → At x p n → T (finite x)
at_finite nan p n h = absurd h
at_finite (inf s) p n h = absurd h
at_finite (fin s m e) p n h = tt

one_plus : lt Number.one Number.zero ≡ false
unfolding lt of_bits
one_plus = refl

-- a number from 0 to 1, in parts
pub record Part (y : Float) (most : ℕ) : Type 0 where
  pub p : ℕ
  pub at : At y p 0
  pub few : p ≤ most

at_small : (x : Float) (p : ℕ) → At x p 0 → p ≤ parts → Small x 1
at_small nan p h l = absurd h
at_small (inf s) p h l = absurd h
at_small (fin false m e) p h l = le_of_mul-le-mul_right (le_trans (le_of_eq h.0) (le_trans (mul-le-mul_right (down e) l) (omega arith))) parts_pos
at_small (fin true m e) p h l = le_of_mul-le-mul_right (le_trans (le_of_eq h.0) (omega (arith, zero-mul (down e)))) parts_pos

zero_small : Small Number.zero 1
unfolding of_bits
zero_small = omega arith

module _ (x r : Float) (fx : T (fits binary32 x)) (fr : T (fits binary32 r)) (px nx pr nr : ℕ) (hx : At x px nx) (hr : At r pr nr) (order : px + nr ≤ pr + nx) where
  before : lt r Number.zero ≡ true → Tame (quot_of x r) 1
  before h =
      let neg_r : pr + 0 ≤ 0 + nr = at_order r Number.zero pr nr 0 0 hr zero_at (not_lt_of_le r Number.zero (le_of_lt r Number.zero h)) in
      let neg_x : px ≤ nx = omega (arith, order, neg_r) in
      let x_low : lt Number.zero x ≡ false = rd_order x px nx parts Number.zero 0 0 parts parts_pos parts_pos (own_rd x px nx fx hx) (own_rd Number.zero 0 0 zero_fits zero_at)
      (omega (arith, mul-le-mul_right parts neg_x)) in
      let v = add binary32 r plain in
      let s = squeeze v (pr + 0) (nr + 0) parts r pr nr r pr nr parts_pos (add-fits binary32 r plain) fr fr hr hr (add_rd r plain pr nr 0 0 hr plain_at) (omega arith) (omega arith) in
      rw (max_none x fx x_low, min_first r Number.one (below_one r h), max_second r Number.zero h)
      (ratio x v r px nx s.p s.n pr nr hx s.at hr (omega (arith, s.low, order)) s.high)

  -- r not below 0: b, and c, lie from 0 to 1
  module _ (up_r : lt r Number.zero ≡ false) where
    abbrev b : Float
    b = min_of r Number.one

    abbrev c : Float
    c = max_of b Number.zero

    b_fits : T (fits binary32 b)
    b_fits = min_fits r Number.one fr one_fits

    b_finite : T (finite b)
    b_finite =
        ⊎_elim (λ e. subst (λ (y : Float). T (finite y)) (sym e) (at_finite r pr nr hr))
        (λ e. subst (λ (y : Float). T (finite y)) (sym e) (at_finite Number.one parts 0 one_at)) (min_picks r Number.one)

    b_plus : lt b Number.zero ≡ false
    b_plus = ⊎_elim (λ e. ap (λ (y : Float). lt y Number.zero) e ∙ up_r) (λ e. ap (λ (y : Float). lt y Number.zero) e ∙ one_plus) (min_picks r Number.one)

    b_part : Part b parts
    b_part =
        let w = own_at b b_fits b_finite in
        let low : 0 + w.n ≤ w.p + 0 = at_order Number.zero b 0 0 w.p w.n zero_at w.at b_plus in
        let h : At b w.p 0 = plus_at b w.p w.n w.at (omega (arith, low)) in
        let high : w.p + 0 ≤ parts + 0 = at_order b Number.one w.p 0 parts 0 h one_at (not_lt_of_le b Number.one (min_right r Number.one one_number)) in
        record { p = w.p; at = h; few = omega (arith, high) }

    b_most : b_part.p + nr ≤ pr + 0
    b_most = at_order b r b_part.p 0 pr nr b_part.at hr (not_lt_of_le b r (min_left r Number.one (at_number r pr nr hr)))

    c_part : Part c b_part.p
    c_part =
        ⊎_elim (λ e. subst (λ (y : Float). Part y b_part.p) (sym e) (record { p = b_part.p; at = b_part.at; few = omega arith }))
        (λ e. subst (λ (y : Float). Part y b_part.p) (sym e) (record { p = 0; at = zero_at; few = omega arith })) (max_picks b Number.zero)

    -- x not above 0: from b at most b itself is taken off
    module _ (low_x : lt Number.zero x ≡ false) where
      abbrev pb : ℕ
      pb = b_part.p

      abbrev pc : ℕ
      pc = c_part.p

      abbrev square : Float
      square = mul binary32 c c

      abbrev off : Float
      off = sub binary32 (mul binary32 Number.zero Number.zero) square

      abbrev left : Float
      left = add binary32 b (mul binary32 Number.half off)

      square_in : Between square 0 0 pb 0
      square_in =
          let t : pc * pc ≤ pb * parts = mul-le-mul c_part.few (le_trans c_part.few b_part.few) in
          squeeze square (pc * pc + 0 * 0) (pc * 0 + 0 * pc) (parts * parts) Number.zero 0 0 b pb 0 (mul-pos parts_pos parts_pos) (mul-fits binary32 c c) zero_fits b_fits zero_at b_part.at
          (mul_rd c c pc 0 pc 0 c_part.at c_part.at) (omega arith) (omega (arith, mul-le-mul_right parts t))

      off_in : Between off 0 pb 0 0
      off_in =
          let s = square_in in
          squeeze off (0 + s.n) (0 + s.p) parts (neg b) 0 pb Number.zero 0 0 parts_pos (sub-fits binary32 (mul binary32 Number.zero Number.zero) square) (neg-fits binary32 b b_fits) zero_fits
          (neg_at b pb 0 b_part.at) zero_at (sub_rd (mul binary32 Number.zero Number.zero) square 0 0 s.p s.n squared_at s.at)
          (omega (arith, mul-le-mul_right parts s.high)) (omega (arith, mul-le-mul_right parts s.low))

      half_part : Part Number.half parts
      half_part =
          let w = own_at Number.half (of_bits-fits binary32 0x3f00_0000) (unfold of_bits in tt) in
          let low : 0 + w.n ≤ w.p + 0 = at_order Number.zero Number.half 0 0 w.p w.n zero_at w.at (unfold lt of_bits in refl) in
          let h : At Number.half w.p 0 = plus_at Number.half w.p w.n w.at (omega (arith, low)) in
          let high : w.p + 0 ≤ parts + 0 = at_order Number.half Number.one w.p 0 parts 0 h one_at (unfold lt of_bits in refl) in
          record { p = w.p; at = h; few = omega (arith, high) }

      halved_in : Between (mul binary32 Number.half off) 0 pb 0 0
      halved_in =
          let s = off_in in
          let h = half_part in
          let o : At off 0 s.n = minus_at off s.p s.n s.at (omega (arith, s.high)) in
          let t : s.n ≤ pb = omega (arith, s.low, at_minus off s.p s.n s.at (omega (arith, s.high))) in
          let u : h.p * s.n ≤ parts * pb = mul-le-mul h.few t in
          squeeze (mul binary32 Number.half off) (h.p * 0 + 0 * s.n) (h.p * s.n + 0 * 0) (parts * parts) (neg b) 0 pb Number.zero 0 0 (mul-pos parts_pos parts_pos)
          (mul-fits binary32 Number.half off) (neg-fits binary32 b b_fits) zero_fits (neg_at b pb 0 b_part.at) zero_at (mul_rd Number.half off h.p 0 0 s.n h.at o)
          (omega (arith, mul-le-mul_right parts u)) (omega arith)

      left_in : Between left 0 0 pb 0
      left_in =
          let s = halved_in in
          squeeze left (pb + s.p) (0 + s.n) parts Number.zero 0 0 b pb 0 parts_pos (add-fits binary32 b (mul binary32 Number.half off)) zero_fits b_fits zero_at b_part.at
          (add_rd b (mul binary32 Number.half off) pb 0 s.p s.n b_part.at s.at) (omega (arith, mul-le-mul_right parts s.low)) (omega (arith, mul-le-mul_right parts s.high))

      across : Tame (quot_of x r) 1
      across =
          let s = left_in in
          let o : px + 0 ≤ 0 + nx = at_order x Number.zero px nx 0 0 hx zero_at low_x in
          rw (max_none x fx low_x)
          (ratio x left r px nx s.p s.n pr nr hx s.at hr (omega (arith, s.low, o)) (omega (arith, s.high, b_most)))

    -- and what is divided is 3 at most where x lies from 0 to 1
    module _ (low_x : lt x Number.zero ≡ false) (few_x : px ≤ parts) where
      x_small : Small x 1
      x_small = at_small x px (plus_at x px nx hx (omega (arith, at_order Number.zero x 0 0 px nx zero_at hx low_x))) few_x

      d_small : Small (max_of x Number.zero) 1
      d_small = ⊎_elim (λ e. subst (λ (y : Float). Small y 1) (sym e) x_small) (λ e. subst (λ (y : Float). Small y 1) (sym e) zero_small) (max_picks x Number.zero)

      over_small : Small (sub binary32 (held_of x r) x) 3
      over_small =
          let d = max_of x Number.zero in
          let hb : Small b 1 = at_small b b_part.p b_part.at b_part.few in
          let hc : Small c 1 = at_small c c_part.p c_part.at (le_trans c_part.few b_part.few) in
          let dd : Small (mul binary32 d d) 1 = mul_small d d 1 1 (lit≤ tt) d_small d_small in
          let cc' : Small (mul binary32 c c) 1 = mul_small c c 1 1 (lit≤ tt) hc hc in
          let t = sub binary32 (mul binary32 d d) (mul binary32 c c) in
          let ht : Small t 2 = sub_small (mul binary32 d d) (mul binary32 c c) 1 1 (lit≤ tt) dd cc' in
          let hh : Small (mul binary32 Number.half t) 1 = half_small t 1 (lit≤ tt) ht in
          sub_small (held_of x r) x 2 1 (lit≤ tt) (add_small b (mul binary32 Number.half t) 1 1 (lit≤ tt) hb hh) x_small

-- ---- right of the pixel's left side

speck_is : round binary32 false 1 2097152 ≡ speck
unfolding round
speck_is = refl

-- epsilon is over 2 ^ -20
pub record Eps (p : ℕ) : Type 0 where
  pub at : At Number.epsilon p 0
  pub many : parts ≤ p * 1048576
  pub more : parts * 33 ≤ p * 33554432
  pub under : p * 4 < parts

pub eps_of : (w : Place Number.epsilon) → Eps w.p
unfolding of_bits
eps_of w = record {
  at = plus_at Number.epsilon w.p w.n w.at (omega (arith, w.at.1));
  many = omega (arith, w.at.0);
  more = omega (arith, w.at.0);
  under = omega (arith, w.at.0, parts_pos);
}

pub eps_place : Place Number.epsilon
eps_place = own_at Number.epsilon (of_bits-fits binary32 0x3586_37bd) (unfold of_bits in tt)

pub parts_many : 1073741824 ≤ parts
unfolding parts
parts_many = lit≤ tt

pub parts_same : (x : Float) (p n g : ℕ) → At x p n → Is (abs_of x) g → p + n ≡ g
unfolding abs_of
parts_same nan p n g h k = absurd h
parts_same (inf s) p n g h k = absurd h
parts_same (fin false m e) p n g h k = omega (arith, h.1, eq_of_mul-eq-mul_right (down e) (down_pos e) p g (sym h.0 ∙ k.1))
parts_same (fin true m e) p n g h k = omega (arith, h.1, eq_of_mul-eq-mul_right (down e) (down_pos e) n g (sym h.0 ∙ k.1))

-- m - e rounded is g, and e is over 2 ^ -20 of P: so m - g is 2 ^ -21 at least
pub wide : (g d m e P K : ℕ) → m ≡ d + e → g * 16777216 ≤ d * 16777217 + 16777216 → m ≤ P → P ≤ e * 1048576 → 1073741824 ≤ P → m ≤ K + g → P ≤ K * 2097152
wide g d m e P K a h u v w z = omega arith

-- epsilon taken from an m that isn't below it, and isn't above 1: what is rounded is off by a part in 2 ^ 24 at most
pub taken_bound : (m : Float) (pm nm e px nx : ℕ) → At m pm nm → Eps e → At (sub binary32 m Number.epsilon) px nx → nm + e ≤ pm → pm ≤ nm + parts
    → (px + nx) * 16777216 ≤ (pm + 0 - (nm + e)) * 16777217 + 16777216
taken_bound m pm nm e px nx hm he hx above few =
    let x = sub binary32 m Number.epsilon in
    let exact = pm + 0 - (nm + e) in
    let near = round_error exact parts 1 parts_pos (lit≤ tt) (omega (arith, few, above)) in
    let sized = rd_abs x (pm + 0) (nm + e) parts (sub_rd m Number.epsilon pm nm e 0 hm he.at) (omega (arith, above)) in
    let same = parts_same x px nx near.g hx (subst (λ (y : Float). Is y near.g) (sym sized) near.is) in
    cancel (px + nx) exact parts parts_pos (subst (λ (g : ℕ). g * parts * 16777216 ≤ exact * parts * 16777217 + parts * 16777216) (sym same) near.high)
  where
    cancel : (g k P : ℕ) → 0 < P → g * P * 16777216 ≤ k * P * 16777217 + P * 16777216 → g * 16777216 ≤ k * 16777217 + 16777216
    cancel g k P p h = le_of_mul-le-mul_right (omega (arith, h)) p

module _ (m r : Float) (pm nm pr nr e : ℕ) (hm : At m pm nm) (hr : At r pr nr) (he : Eps e) (order : pm + nr ≤ pr + nm) (few : pm ≤ nm + parts)
    (up_x : lt Number.zero (sub binary32 m Number.epsilon) ≡ true) (px nx : ℕ) (hx : At (sub binary32 m Number.epsilon) px nx) where
  abbrev taken : Float
  taken = sub binary32 m Number.epsilon

  taken_rd : Rd taken (pm + 0) (nm + e) parts
  taken_rd = sub_rd m Number.epsilon pm nm e 0 hm he.at

  -- m is above epsilon
  above : nm + e ≤ pm
  above = ⊎_elim low (λ h. h) (below_or_not pm (nm + e))
    where
      low : pm < nm + e → nm + e ≤ pm
      low h =
          absurd (true≢false (sym up_x ∙ rd_order taken (pm + 0) (nm + e) parts Number.zero 0 0 parts parts_pos parts_pos taken_rd (own_rd Number.zero 0 0 zero_fits zero_at)
          (omega (arith, mul-le-mul_right parts h))))

  no_minus : nm ≡ 0
  no_minus = at_plus m pm nm hm (omega (arith, above))

  no_x_minus : nx ≡ 0
  no_x_minus = at_plus taken px nx hx (omega (arith, at_order Number.zero taken 0 0 px nx zero_at hx (not_lt_of_le Number.zero taken (le_of_lt Number.zero taken up_x))))

  abbrev exact : ℕ
  exact = pm + 0 - (nm + e)

  bound : (px + nx) * 16777216 ≤ exact * 16777217 + 16777216
  bound = taken_bound m pm nm e px nx hm he hx above few

  far_apart : parts ≤ (pr + nx - (nr + px)) * 2097152
  far_apart =
      wide (px + nx) exact pm e parts (pr + nx - (nr + px)) (omega (arith, no_minus, above)) bound (omega (arith, few, no_minus)) he.many parts_many
      (omega (arith, order, no_minus, no_x_minus))

  reach : nr + px ≤ pr + nx
  reach = some (pr + nx) (nr + px) parts parts_pos far_apart
    where
      some : (a b P : ℕ) → 0 < P → P ≤ (a - b) * 2097152 → b ≤ a
      some a b P p h = omega arith

  -- so the divisor is 2 ^ -21 at least
  apart : lt (abs_of (sub binary32 r taken)) speck ≡ false
  apart =
      let k = pr + nx - (nr + px) in
      rw (rd_abs (sub binary32 r taken) (pr + nx) (nr + px) parts (sub_rd r taken pr nr px nx hr hx) reach)
      (ap (λ (y : Float). lt (round binary32 false k parts) y) (sym speck_is)
      ∙ not_lt_of_le (round binary32 false 1 2097152) (round binary32 false k parts)
      (is_true (le (round binary32 false 1 2097152) (round binary32 false k parts)) (round_mono binary32 1 2097152 k parts (lit< tt) parts_pos (omega (arith, far_apart)))))

-- ---- both
low_one : (l r : Float) → T (fits binary32 l) → T (fits binary32 r) → T (finite r) → le Number.one l ≡ true → lt r l ≡ false → lt r Number.one ≡ false
low_one nan r fl fr f h o = absurd (unfold le of_bits in false≢true h)
low_one (inf true) r fl fr f h o = absurd (unfold le of_bits in false≢true h)
low_one (inf false) nan fl fr f h o = absurd f
low_one (inf false) (inf s) fl fr f h o = absurd f
low_one (inf false) (fin s m e) fl fr f h o = absurd (unfold lt in true≢false o)
low_one (fin s m e) r fl fr f h o =
    let l = fin s m e in
    let w = own_at l fl tt in
    let v = own_at r fr f in
    let a : parts + w.n ≤ w.p + 0 = at_order Number.one l parts 0 w.p w.n one_at w.at (not_lt_of_le Number.one l h) in
    let b : w.p + v.n ≤ v.p + w.n = at_order l r w.p w.n v.p v.n w.at v.at o in
    let c : parts + v.n ≤ v.p + 0 = omega (arith, a, b) in
    rd_order Number.one parts 0 parts r v.p v.n parts parts_pos parts_pos (own_rd Number.one parts 0 one_fits one_at) (own_rd r v.p v.n fr v.at)
    (omega (arith, mul-le-mul_right parts c))

abbrev pub share_most : ℕ
share_most = 3 * 2097152

module _ (l r : Float) (fl : T (fits binary32 l)) (fr : T (fits binary32 r)) (number : T (not (is_nan l))) (order : lt r l ≡ false) where
  abbrev low : Float
  low = min_of l Number.one

  pub low_fits : T (fits binary32 low)
  low_fits = min_fits l Number.one fl one_fits

  pub low_under : T (finite r) → lt r low ≡ false
  low_under f =
      ⊎_elim (λ e. ap (lt r) e ∙ order) (λ e. ap (lt r) e ∙ low_one l r fl fr f (subst (λ (y : Float). le y l ≡ true) e (min_left l Number.one number)) order) (min_picks l Number.one)

  finite_low : finite (low_of l) ≡ true → finite low ≡ true
  finite_low h = go (finite low) refl
    where
      go : (t : Bool) → finite low ≡ t → finite low ≡ true
      go true e = e
      go false e = absurd (true≢false (sym h ∙ sub_wild_left low Number.epsilon e))

  tamed : finite (low_of l) ≡ true → finite r ≡ true → Tame (share_of l r) share_most
  tamed hx hr = go (lt r Number.zero) refl (lt Number.zero (low_of l)) refl
    where
      is : {b : Bool} → b ≡ true → T b
      is e = subst T (sym e) tt

      fx : T (fits binary32 (low_of l))
      fx = sub-fits binary32 low Number.epsilon

      vx : Place (low_of l)
      vx = own_at (low_of l) fx (is hx)

      vr : Place r
      vr = own_at r fr (is hr)

      vm : Place low
      vm = own_at low low_fits (is (finite_low hx))

      under : vm.p + vr.n ≤ vr.p + vm.n
      under = at_order low r vm.p vm.n vr.p vr.n vm.at vr.at (low_under (is hr))

      most : vm.p + 0 ≤ parts + vm.n
      most = at_order low Number.one vm.p vm.n parts 0 vm.at one_at (not_lt_of_le low Number.one (min_right l Number.one one_number))

      -- x isn't above m
      down_x : (q : ℕ) → Eps q → vx.p + vm.n ≤ vm.p + vx.n
      down_x q e =
          at_order (low_of l) low vx.p vx.n vm.p vm.n vx.at vm.at
          (rd_order (low_of l) (vm.p + 0) (vm.n + q) parts low vm.p vm.n parts parts_pos parts_pos (sub_rd low Number.epsilon vm.p vm.n q 0 vm.at e.at)
          (own_rd low vm.p vm.n low_fits vm.at) (omega arith))

      eps : Eps eps_place.p
      eps = eps_of eps_place

      ordered : vx.p + vr.n ≤ vr.p + vx.n
      ordered = omega (arith, down_x eps_place.p eps, under)

      weaker : Tame (share_of l r) 1 → Tame (share_of l r) share_most
      weaker = ⊎_elim inl (λ h. inr (small_more (share_of l r) 1 share_most (lit≤ tt) h))

      go : (s : Bool) → lt r Number.zero ≡ s → (t : Bool) → lt Number.zero (low_of l) ≡ t → Tame (share_of l r) share_most
      go true a t b = weaker (before (low_of l) r fx fr vx.p vx.n vr.p vr.n vx.at vr.at ordered a)
      go false a false b = weaker (across (low_of l) r fx fr vx.p vx.n vr.p vr.n vx.at vr.at ordered a b)
      go false a true b =
          let up = not_lt_of_le Number.zero (low_of l) (le_of_lt Number.zero (low_of l) b) in
          let flat = at_plus (low_of l) vx.p vx.n vx.at (omega (arith, at_order Number.zero (low_of l) 0 0 vx.p vx.n zero_at vx.at up)) in
          div_wide (sub binary32 (held_of (low_of l) r) (low_of l)) (sub binary32 r (low_of l)) 3 (lit≤ tt)
          (over_small (low_of l) r fx fr vx.p vx.n vr.p vr.n vx.at vr.at ordered a up (omega (arith, flat, most, down_x eps_place.p eps)))
          (apart low r vm.p vm.n vr.p vr.n eps_place.p vm.at vr.at eps under (omega (arith, most)) b vx.p vx.n vx.at)

  pub share_tame : Tame (share_of l r) share_most
  share_tame = go (finite (low_of l)) refl (finite r) refl
    where
      go : (s : Bool) → finite (low_of l) ≡ s → (t : Bool) → finite r ≡ t → Tame (share_of l r) share_most
      go false a t b = div_wild (sub binary32 (held_of (low_of l) r) (low_of l)) (sub binary32 r (low_of l)) share_most (sub_wild_right r (low_of l) a)
      go true a false b = div_wild (sub binary32 (held_of (low_of l) r) (low_of l)) (sub binary32 r (low_of l)) share_most (sub_wild_left r (low_of l) b)
      go true a true b = tamed a b
