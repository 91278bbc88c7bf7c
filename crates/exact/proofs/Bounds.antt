-- From the check of a coordinate to the size of what is computed from it. Assumes nothing.
--     small_of_le, le_of_small, small_between   what a comparison with a whole number tells
--     small_round, small_scale, small_sign   rounding goes beyond no whole number
--     floor_small, ceil_small           the integer of a floor or a ceil
--     near_of                           a checked coordinate, in tiles
--     line_at_lem                           such coordinates give a line's first numbers
--     span_most, span_least             a span is 1 tile at least, and twice the limit at most
use mathlib.Core.Path.{◌≡◌, refl, sym, ap, ◌∙◌, subst}
use mathlib.Core.Bool.{Bool, true, false, not, cond, true≢false, false≢true}
use mathlib.Core.Logic.{⊎_elim}
use Prim.Native.Nat.{ℕ, ◌+◌, ◌-◌, ◌*◌, ◌/◌, ◌^◌, ◌≤◌, ◌<◌}
use native.Mathlib.Nat.{le_trans, le_of_eq, mul-one, mul-pos, mul-le-mul_right, le-div_iff_mul-le}
use native.Mathlib.Omega.{arith}
use lib.Dec.{T, lit<, lit≤}
use lib.IntN.{ℤ, pos, negsuc, ◌+ℤ◌, ◌-ℤ◌, neg_ℤ, nat_abs}
use lib.Ieee.{Float, nan, inf, fin, binary32, up, down, unlike, round, add, sub, mul, neg, le, lt, fits, is_nan, of_bits, to_signed, to_unsigned}
use lib.Ieee.Fits.{down_pos, mul-fits}
use lib.Ieee.Bits.{is_true}
use lib.Ieee.Exact.{HasValue}
use lib.Ieee.Order.{round_mono}
use lib.Ieee.Scale.{finite}
use borrow.Author.Tests.{ltb-false, lt-ltb, le-ltb}
use Rattle.float32.specs.Inner.{limit, Within}
use Rattle.float32.specs.Meaning.{whole, up_div, floor_of, ceil_of, abs_of, signed, unit, min_of, max_of}
use Rattle.float32.proofs.Whole.{whole_value}
use Rattle.float32.proofs.Order.{not_lt_of_le, le_of_not_lt, le_right}
use Rattle.float32.proofs.MinMax.{min_picks, max_picks, max_right}
use Rattle.float32.proofs.Floors.{trunc_exact, lt_plus, gt_plus, gt_minus}
use Rattle.float32.proofs.Laws.{size_plus, size_minus, down_most, up_most, up_exact, floor_fits, max_fits, min_fits}
use Rattle.exact.specs.Whole.{IsWhole, floor_z, ceil_z, turn, Small}
use Rattle.util.specs.Constants.{zero as zero_f, one, minus_one, tile_scale}
use Rattle.util.specs.Span.{span_of}
use Rattle.panel.specs.Limits.{coord_most}
use Rattle.exact.specs.Reach.{in_reach, scaled, coord_tiles, Near, sign_at, x0_at, Starts}
use Rattle.exact.proofs.Limits.{far}
use Rattle.exact.proofs.Signs.{abs_signed, abs_sum, abs_neg, abs_turn}
use Rattle.exact.proofs.Exact.{value_whole, floor_whole, whole_cast, add_whole, sub_whole, whole_sign, round_signed}

-- ---- what a comparison tells
pub small_finite : (x : Float) (N : ℕ) → Small x N → T (finite x)
small_finite nan N h = h
small_finite (inf s) N h = h
small_finite (fin s m e) N h = tt

below_inf : (w : Float) (s : Bool) (a c : ℕ) → HasValue w s a c → lt w (inf false) ≡ true
unfolding lt
below_inf nan s a c h = absurd h
below_inf (inf t) s a c h = absurd h
below_inf (fin t m e) s a c h = refl

above_inf : (w : Float) (s : Bool) (a c : ℕ) → HasValue w s a c → lt (inf true) w ≡ true
unfolding lt
above_inf nan s a c h = absurd h
above_inf (inf t) s a c h = absurd h
above_inf (fin t m e) s a c h = refl

pub small_of_le : (x : Float) (N : ℕ) → N ≤ 2 ^ 24 → le (abs_of x) (whole false N) ≡ true → Small x N
unfolding abs_of
small_of_le nan N b h = absurd (unfold le in false≢true h)
small_of_le (inf s) N b h = absurd (true≢false (sym (below_inf (whole false N) false N 1 (whole_value false N b)) ∙ not_lt_of_le (inf false) (whole false N) h))
small_of_le (fin s m e) N b h = size_plus m e N b h

-- and the other way round
pub le_of_small : (x : Float) (N : ℕ) → N ≤ 2 ^ 24 → Small x N → le (abs_of x) (whole false N) ≡ true
unfolding abs_of
le_of_small nan N b h = absurd h
le_of_small (inf s) N b h = absurd h
le_of_small (fin s m e) N b h =
    let v = whole_value false N b in
    le_of_not_lt (fin false m e) (whole false N) (unfold is_nan in tt) (value_number (whole false N) N v) (gt_plus m e (whole false N) N v ∙ le-ltb (N * down e) (m * up e) h)
  where
    value_number : (y : Float) (n : ℕ) → HasValue y false n 1 → T (not (is_nan y))
    value_number nan n v = absurd v
    value_number (inf s) n v = absurd v
    value_number (fin s j d) n v = unfold is_nan in tt

-- the same check by two comparisons
pub small_between : (x : Float) (N : ℕ) → N ≤ 2 ^ 24 → le (whole true N) x ≡ true → le x (whole false N) ≡ true → Small x N
small_between nan N b g h = absurd (unfold le in false≢true h)
small_between (inf true) N b g h = absurd (true≢false (sym (above_inf (whole true N) true N 1 (whole_value true N b)) ∙ not_lt_of_le (whole true N) (inf true) g))
small_between (inf false) N b g h = absurd (true≢false (sym (below_inf (whole false N) false N 1 (whole_value false N b)) ∙ not_lt_of_le (inf false) (whole false N) h))
small_between (fin true m e) N b g h = size_minus m e N b g
small_between (fin false m e) N b g h = size_plus m e N b h

-- ---- rounding is monotone, so it goes beyond no whole number
abs_of_signed : (s : Bool) (y : Float) → abs_of (signed s y) ≡ signed false y
unfolding abs_of signed
abs_of_signed s nan = refl
abs_of_signed s (inf t) = refl
abs_of_signed s (fin t m e) = refl

pub small_round : (s : Bool) (a c N : ℕ) → 0 < c → N ≤ 2 ^ 24 → a ≤ N * c → Small (round binary32 s a c) N
small_round s a c N C b h =
    let r : le (round binary32 false a c) (whole false N) ≡ true = is_true (le (round binary32 false a c) (whole false N))
    (round_mono binary32 a c N 1 C (lit< tt) (le_trans (le_of_eq (mul-one a)) h)) in
    let e : abs_of (round binary32 s a c) ≡ round binary32 false a c =
    ap abs_of (round_signed s a c) ∙ abs_of_signed s (round binary32 false a c) ∙ sym (round_signed false a c) in
    small_of_le (round binary32 s a c) N b (subst (λ (y : Float). le y (whole false N) ≡ true) (sym e) r)

-- x / 16
pub small_scale : (x : Float) (N : ℕ) → N ≤ 2 ^ 24 → Small x (N * 16) → Small (mul binary32 x (fin false 1 (negsuc 3))) N
unfolding mul
small_scale nan N b h = absurd h
small_scale (inf s) N b h = absurd h
small_scale (fin s m e) N b h = small_round (unlike s false) (m * up e * 1) (down e * 16) N (mul-pos (down_pos e) (lit< tt)) b (omega arith)

pub small_sign : (t : Bool) (x : Float) (N : ℕ) → N ≤ 2 ^ 24 → Small x N → Small (mul binary32 x (unit t)) N
unfolding mul
small_sign t nan N b h = absurd h
small_sign t (inf s) N b h = absurd h
small_sign t (fin s m e) N b h = small_round (unlike s t) (m * up e * 1) (down e * 1) N (mul-pos (down_pos e) (lit< tt)) b (omega arith)

pub whole_small : (x : Float) (n : ℤ) (N : ℕ) → IsWhole x n → nat_abs n ≤ N → Small x N
whole_small nan n N h b = absurd h
whole_small (inf s) n N h b = absurd h
whole_small (fin s m e) n N h b =
    le_trans (le_of_eq h.1) (mul-le-mul_right (down e) (subst (λ (j : ℕ). j ≤ N) (ap nat_abs h.2 ∙ abs_signed s h.0) b))

-- ---- floor and ceil
pub floor_small : (x : Float) (N : ℕ) → Small x N → nat_abs (floor_z x) ≤ N
unfolding floor_z
floor_small nan N h = absurd h
floor_small (inf s) N h = absurd h
floor_small (fin false m e) N h = down_most (m * up e) (down e) N (down_pos e) h
floor_small (fin true m e) N h = le_trans (le_of_eq (abs_signed true (up_div (m * up e) (down e)))) (up_most (m * up e) (down e) N (down_pos e) h)

pub ceil_small : (x : Float) (N : ℕ) → Small x N → nat_abs (ceil_z x) ≤ N
unfolding ceil_z
ceil_small nan N h = absurd h
ceil_small (inf s) N h = absurd h
ceil_small (fin false m e) N h = up_most (m * up e) (down e) N (down_pos e) h
ceil_small (fin true m e) N h = le_trans (le_of_eq (abs_signed true (m * up e / down e))) (down_most (m * up e) (down e) N (down_pos e) h)

pub ceil_whole : (x : Float) → T (fits binary32 x) → T (finite x) → IsWhole (ceil_of x) (ceil_z x)
unfolding ceil_of ceil_z
ceil_whole nan h f = absurd f
ceil_whole (inf s) h f = absurd f
ceil_whole (fin false m e) h f = value_whole (whole false (up_div (m * up e) (down e))) false (up_div (m * up e) (down e)) (up_exact false m e h)
ceil_whole (fin true m e) h f = value_whole (whole true (m * up e / down e)) true (m * up e / down e) (trunc_exact true m e h)

-- as i32
pub floor_cast : (x : Float) → T (fits binary32 x) → Small x (2 ^ 24) → to_signed 31 (floor_of x) ≡ floor_z x
floor_cast x f h = whole_cast (floor_of x) (floor_z x) (floor_whole x f (small_finite x (2 ^ 24) h)) (omega (arith, floor_small x (2 ^ 24) h))

pub ceil_cast : (x : Float) → T (fits binary32 x) → Small x (2 ^ 24) → to_signed 31 (ceil_of x) ≡ ceil_z x
ceil_cast x f h = whole_cast (ceil_of x) (ceil_z x) (ceil_whole x f (small_finite x (2 ^ 24) h)) (omega (arith, ceil_small x (2 ^ 24) h))

-- a looser bound
pub small_more : (x : Float) (M N : ℕ) → M ≤ N → Small x M → Small x N
small_more nan M N b h = h
small_more (inf s) M N b h = h
small_more (fin s m e) M N b h = le_trans h (mul-le-mul_right (down e) b)

-- ---- the constants
one_is : one ≡ unit false
unfolding of_bits
one_is = refl

minus_one_is : minus_one ≡ unit true
unfolding of_bits neg
minus_one_is = refl

pub scale_is : tile_scale ≡ fin false 1 (negsuc 3)
unfolding of_bits
scale_is = refl

zero_whole : IsWhole zero_f (pos 0)
unfolding of_bits
zero_whole = (0, refl, refl)

minus_whole : IsWhole minus_one (negsuc 0)
unfolding of_bits neg
minus_whole = (1, refl, refl)

pub sign_unit : (r : Bool) → sign_at r ≡ unit (not r)
sign_unit true = one_is
sign_unit false = minus_one_is

-- ---- a checked coordinate, in tiles
pub near_of : (p : Float) → in_reach p ≡ true → Near (scaled p)
near_of p h = record {
  few =
      subst (λ (k : Float). Small (mul binary32 p k) coord_tiles) (sym scale_is)
      (small_scale p coord_tiles (omega (arith, far.tiles)) (small_of_le p (coord_tiles * 16) (omega (arith, far.tiles)) (subst (λ (w : Float). le (abs_of p) w ≡ true) far.coord h)));
  fit = mul-fits binary32 p tile_scale;
}

-- it is finite, and so a number
pub near_finite : (s : Float) → Near s → T (finite s)
near_finite s n = small_finite s coord_tiles n.few

-- it lies between the limits of `floor_near`, and so does its negative
under : (A D N : ℕ) → 0 < D → N ≤ 2 ^ 20 → A ≤ N * D → A < 4194304 * D
under A D N p few h = let q : N * D ≤ 1048576 * D = mul-le-mul_right D few in omega (arith, le_trans h q)

small_within : (x : Float) (N : ℕ) → N ≤ 2 ^ 20 → Small x N → Within x
unfolding lt
small_within nan N few h = absurd h
small_within (inf s) N few h = absurd h
small_within (fin false m e) N few h = record {
  below = lt_plus m e (limit false) 4194304 (refl, refl) ∙ lt-ltb _ _ (under (m * up e) (down e) N (down_pos e) few h);
  above = lt-ltb 0 (4194304 * down e + m * up e * 1) (omega (arith, down_pos e));
}
small_within (fin true m e) N few h = record {
  below = lt-ltb 0 (m * up e * 1 + 4194304 * down e) (omega (arith, down_pos e));
  above = gt_minus m e (limit true) 4194304 (refl, refl) ∙ lt-ltb _ _ (under (m * up e) (down e) N (down_pos e) few h);
}

small_turned : (x : Float) (N : ℕ) → Small x N → Small (neg x) N
unfolding neg
small_turned nan N h = h
small_turned (inf s) N h = h
small_turned (fin s m e) N h = h

pub near_within : (s : Float) → Near s → Within s
near_within s n = small_within s coord_tiles far.tiles n.few

pub near_turned : (s : Float) → Near s → Within (neg s)
near_turned s n = small_within (neg s) coord_tiles far.tiles (small_turned s coord_tiles n.few)

pub finite_number : (x : Float) → T (finite x) → T (not (is_nan x))
unfolding is_nan
finite_number nan f = absurd f
finite_number (inf s) f = absurd f
finite_number (fin s m e) f = tt

pub reach_finite : (p : Float) → in_reach p ≡ true → T (finite p)
reach_finite p h = small_finite p (coord_tiles * 16) (small_of_le p (coord_tiles * 16) (omega (arith, far.tiles)) (subst (λ (w : Float). le (abs_of p) w ≡ true) far.coord h))

-- ---- a line's numbers
module _ (N : ℕ) (few : N ≤ 2 ^ 20) (t : Bool) (s : Float) (h : Small s N) where
  -- floor (s * sign) * sign
  xt0_whole : IsWhole (mul binary32 (floor_of (mul binary32 s (unit t))) (unit t)) (turn t (floor_z (mul binary32 s (unit t))))
  xt0_whole =
      let v = mul binary32 s (unit t) in
      whole_sign t (floor_of v) (floor_z v) (floor_fits v) (floor_whole v (mul-fits binary32 s (unit t)) (small_finite v N (small_sign t s N (omega arith) h)))

  xt0_small : nat_abs (turn t (floor_z (mul binary32 s (unit t)))) ≤ N
  xt0_small = le_trans (le_of_eq (abs_turn t (floor_z (mul binary32 s (unit t))))) (floor_small (mul binary32 s (unit t)) N (small_sign t s N (omega arith) h))

  -- and one less where x falls
  first_col : (d : Float) (k : ℤ) → IsWhole d k → nat_abs k ≤ 1
      → IsWhole (add binary32 (mul binary32 (floor_of (mul binary32 s (unit t))) (unit t)) d) (turn t (floor_z (mul binary32 s (unit t))) +ℤ k)
  first_col d k w b =
      let x = mul binary32 (floor_of (mul binary32 s (unit t))) (unit t) in
      let n = turn t (floor_z (mul binary32 s (unit t))) in
      add_whole x d n k xt0_whole w (omega (arith, abs_sum n k, xt0_small))

-- the integer of x0
abbrev pub x0_z : Bool → Float → ℤ
x0_z rises s = turn (not rises) (floor_z (mul binary32 s (unit (not rises)))) +ℤ cond rises (pos 0) (negsuc 0)

module _ (N : ℕ) (few : N ≤ 2 ^ 20) (s : Float) (h : Small s N) where
  pub x0_is : (rises : Bool) → IsWhole (x0_at rises s) (x0_z rises s)
  x0_is true =
      subst (λ (u : Float). IsWhole (add binary32 (mul binary32 (floor_of (mul binary32 s u)) u) zero_f) (x0_z true s)) (sym one_is)
      (first_col N few false s h zero_f (pos 0) zero_whole (lit≤ tt))
  x0_is false =
      subst (λ (u : Float). IsWhole (add binary32 (mul binary32 (floor_of (mul binary32 s u)) u) minus_one) (x0_z false s)) (sym minus_one_is)
      (first_col N few true s h minus_one (negsuc 0) minus_whole (lit≤ tt))

  pub x0_most : (rises : Bool) → nat_abs (x0_z rises s) ≤ N + 1
  x0_most true = omega (arith, abs_sum (turn false (floor_z (mul binary32 s (unit false)))) (pos 0), xt0_small N few false s h)
  x0_most false = omega (arith, abs_sum (turn true (floor_z (mul binary32 s (unit true)))) (negsuc 0), xt0_small N few true s h)

-- for coordinates in tiles
abbrev pub line_at_lem : (rises : Bool) (sx sy : Float) → Near sx → Near sy → Starts (sign_at rises) (x0_at rises sx) (floor_of sy)
line_at_lem rises sx sy hx hy = record {
  turned = not rises;
  x0n = x0_z rises sx;
  y0n = floor_z sy;
  sign_is = sign_unit rises;
  x0_whole = x0_is coord_tiles far.tiles sx hx.few rises;
  y0_whole = floor_whole sy hy.fit (near_finite sy hy);
  x0_small = x0_most coord_tiles far.tiles sx hx.few rises;
  y0_small = floor_small sy coord_tiles hy.few;
}

-- ---- spans
max_small : (a b : Float) (N : ℕ) → Small a N → Small b N → Small (max_of a b) N
max_small a b N h k = ⊎_elim (λ e. rw e h) (λ e. rw e k) (max_picks a b)

min_small : (a b : Float) (N : ℕ) → Small a N → Small b N → Small (min_of a b) N
min_small a b N h k = ⊎_elim (λ e. rw e h) (λ e. rw e k) (min_picks a b)

cast_most : (x : Float) (N : ℕ) → Small x N → to_unsigned 32 x ≤ N
unfolding to_unsigned
cast_most nan N h = absurd h
cast_most (inf s) N h = absurd h
cast_most (fin true m e) N h = Prim.Native.Nat.zero-le
cast_most (fin false m e) N h = omega (arith, down_most (m * up e) (down e) N (down_pos e) h)

one_small : (N : ℕ) → 1 ≤ N → Small one N
unfolding of_bits
one_small N h = omega arith

pub span_small : (N : ℕ) → N ≤ 2 ^ 20 → 1 ≤ N → (a b : Float) → T (fits binary32 a) → T (fits binary32 b) → Small a N → Small b N → span_of a b ≤ N + N
unfolding span_of
span_small N few some a b f g h k =
    let u = max_of a b in
    let v = min_of a b in
    let hu : Small u N = max_small a b N h k in
    let hv : Small v N = min_small a b N h k in
    let d = sub binary32 (ceil_of u) (floor_of v) in
    let n = ceil_z u -ℤ floor_z v in
    let c : nat_abs n ≤ N + N = omega (arith, abs_sum (ceil_z u) (neg_ℤ (floor_z v)), abs_neg (floor_z v), ceil_small u N hu, floor_small v N hv) in
    let w : IsWhole d n = sub_whole (ceil_of u) (floor_of v) (ceil_z u) (floor_z v) (ceil_whole u (max_fits a b f g) (small_finite u N hu))
    (floor_whole v (min_fits a b f g) (small_finite v N hv)) (omega arith) in
    cast_most (max_of d one) (N + N) (max_small d one (N + N) (whole_small d n (N + N) w c) (one_small (N + N) (omega arith)))

-- of checked coordinates
pub span_most : (a b : Float) → Near a → Near b → span_of a b ≤ coord_tiles + coord_tiles
span_most a b h k = span_small coord_tiles far.tiles far.some a b h.fit k.fit h.few k.few

-- a span is one tile at least, whatever its ends are
cast_least : (x : Float) → lt x one ≡ false → T (not (is_nan x)) → 1 ≤ to_unsigned 32 x
unfolding to_unsigned lt of_bits
cast_least nan h n = absurd (unfold is_nan in n)
cast_least (inf true) h n = absurd (true≢false h)
cast_least (inf false) h n = lit≤ tt
cast_least (fin true m e) h n = absurd (none (m * up e * 1) (1 * down e) (mul-pos (lit< tt) (down_pos e)) (ltb-false 0 (m * up e * 1 + 1 * down e) h))
  where
    none : (a b : ℕ) → 0 < b → a + b ≤ 0 → ⊥
    none a b p q = omega arith
cast_least (fin false m e) h n =
    let l : 1 * down e ≤ m * up e * 1 = ltb-false (m * up e * 1) (1 * down e) h in
    let q : 1 ≤ m * up e / down e = (le-div_iff_mul-le (down_pos e)).1 (omega arith) in
    omega arith

one_number : T (not (is_nan one))
unfolding is_nan of_bits
one_number = tt

pub span_least : (a b : Float) → 1 ≤ span_of a b
unfolding span_of
span_least a b =
    let d = sub binary32 (ceil_of (max_of a b)) (floor_of (min_of a b)) in
    let l : le one (max_of d one) ≡ true = max_right d one one_number in
    cast_least (max_of d one) (not_lt_of_le one (max_of d one) l) (le_right one (max_of d one) l)
