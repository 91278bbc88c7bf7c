-- The walk's a, b and z of a line whose ends lie strictly within one tile, and that is not too short: a is finite, b lies from 0 to below 1, so z at step 0 is 0. Assumes nothing.
use Rattle.std.proofs.Common.{◌≡◌, ℕ, ◌+◌, ◌-◌, ◌*◌, ◌^◌, ◌<◌, ◌≤◌, Bool, true, false, cond, not, T, eqb, ltb, ℤ, pos, negsuc, neg_ℤ, sym, refl, ap, ◌∙◌, subst, inl, inr, true≢false, le_trans, le_of_eq, mul-le-mul_right, mul_assoc, mul_comm, mul-le-mul, mul-pos, one-mul, zero-mul, arith, lit<, lit≤, ltb-false, lt-ltb, ne_eqb}
use mathlib.Core.Bool.{false≢true}
use lib.Ieee.{Float, nan, inf, fin, binary32, up, down, unlike, round, sum, add, sub, mul, div, lt, le, eq, ne, is_nan, of_bits, of_int}
use lib.Ieee.Fits.{down_pos, add-fits}
use lib.Ieee.Scale.{finite}
use Rattle.float32.specs.Meaning.{up_div, floor_of, abs_of, sign_of, signed, copysign_of, min_of}
use Rattle.float32.proofs.Order.{not_lt_of_le}
use Rattle.float32.proofs.MinMax.{min_right}
use Rattle.float32.proofs.Magic.{div_is}
use Rattle.float32.proofs.Laws.{up_most}
use Rattle.util.specs.Constants.{zero as zero_f, one, one_minus_ulp, robust_epsilon}
use Rattle.util.specs.declared.Vec2.{Vec2}
use Rattle.exact.specs.Whole.{IsWhole, floor_z, Small}
use Rattle.exact.proofs.Exact.{floor_whole}
use Rattle.exact.proofs.Bounds.{small_finite, small_round, small_more}
use Rattle.walk.specs.Num.{float}
use Rattle.walk.specs.Step.{z_at}
use Rattle.walk.specs.Setup.{Scaled, slope_of, b_of, a_of}
use Rattle.walk.specs.declared.kinds.Slope.{Slope}
use Rattle.walk.specs.declared.kinds.Counts.{Counts}
use Rattle.errors.specs.Sizes.{AtMost, Zero, Plus}
use Rattle.errors.proofs.Sizes.{round_most, add_small, sub_small}
use Rattle.errors.proofs.Signs.{round_none, add_plus}
use Rattle.errors.proofs.Slopes.{start_in}
use Rattle.spot.specs.Tests.{short}
use Rattle.spot.proofs.InTile.{Off}
use Rattle.spot.proofs.Guess.{factor}
use Rattle.spot.proofs.Apart.{apart_down, apart_small, apart_turned}

-- both ends lie strictly within the tile in column x and row y, and they are apart
pub record Spotted (s0 s1 : Vec2) (x y : ℕ) : Type 0 where
  pub start_x : Off s0.x x
  pub start_y : Off s0.y y
  pub end_x : Off s1.x x
  pub end_y : Off s1.y y
  pub long : le short (add binary32 (abs_of (sub binary32 s1.x s0.x)) (abs_of (sub binary32 s1.y s0.y))) ≡ true

pub turned_round : (s0 s1 : Vec2) (x y : ℕ) → Spotted s0 s1 x y → Spotted s1 s0 x y
turned_round s0 s1 x y h = record {
  start_x = h.end_x;
  start_y = h.end_y;
  end_x = h.start_x;
  end_y = h.start_y;
  long =
      subst (λ (z : Float). le short (add binary32 (abs_of (sub binary32 s0.x s1.x)) z) ≡ true) (apart_turned s0.y s1.y y h.start_y h.end_y)
      (subst (λ (z : Float). le short (add binary32 z (abs_of (sub binary32 s1.y s0.y))) ≡ true) (apart_turned s0.x s1.x x h.start_x h.end_x) h.long);
}

-- ---- 1 divided by a number that is not too short
pub record Stands (r : Float) : Type 0 where
  pub m : ℕ
  pub e : ℤ
  pub is : r ≡ fin false m e
  pub least : down e ≤ m * up e * 1048576

some : (a b : ℕ) → 0 < b → 0 < a + 1 * 1 * b
some a b h = omega arith

stands : (r : Float) → T (finite r) → le short r ≡ true → Stands r
unfolding of_bits lt
stands nan f h = absurd f
stands (inf s) f h = absurd f
stands (fin true m e) f h =
    absurd
    (true≢false (sym (lt-ltb 0 (m * up e * 1048576 + 1 * 1 * down e) (some (m * up e * 1048576) (down e) (down_pos e))) ∙ not_lt_of_le (fin false 1 (negsuc 19)) (fin true m e) h))
stands (fin false m e) f h =
    let l : 1 * 1 * down e ≤ m * up e * 1048576 = ltb-false (m * up e * 1048576) (1 * 1 * down e) (not_lt_of_le (fin false 1 (negsuc 19)) (fin false m e) h) in
    record { m = m; e = e; is = refl; least = omega arith }

module _ (m : ℕ) (e : ℤ) (l : down e ≤ m * up e * 1048576) where
  size_pos : 0 < m * up e
  size_pos = factor 0 (m * up e) 1048576 (omega (arith, down_pos e))

  not_none : eqb m 0 ≡ false
  not_none = ne_eqb m 0 (λ q. let h : 0 < m = factor 0 m (up e) size_pos in omega arith)

  recip_small : Small (div binary32 one (fin false m e)) 1048576
  unfolding div of_bits
  recip_small = rw not_none (small_round false (1 * 1 * down e) (m * up e * 1) 1048576 (omega (arith, size_pos)) (lit≤ tt) (omega arith))

  not_zero : eq (fin false m e) zero_f ≡ false
  unfolding eq of_bits
  not_zero = rw (ne_eqb (m * up e * 1) (0 * 1 * down e) (λ q. let h = size_pos in omega arith)) refl

over_small : (r : Float) → Stands r → Small (div binary32 one r) 1048576
over_small r h = subst (λ (y : Float). Small (div binary32 one y) 1048576) (sym h.is) (recip_small h.m h.e h.least)

pub stands_some : (r : Float) → Stands r → eq r zero_f ≡ false
stands_some r h = ap (λ (y : Float). eq y zero_f) h.is ∙ not_zero h.m h.e h.least

-- ---- a product with a number of size 1 at most
product : (A D B E M : ℕ) → A ≤ 1 * D → B ≤ M * E → A * B ≤ M * (D * E)
product A D B E M h k =
    le_trans (mul-le-mul h k) (le_of_eq (ap (λ (z : ℕ). z * (M * E)) (one-mul D) ∙ sym (mul_assoc D M E) ∙ ap (λ (z : ℕ). z * E) (mul_comm D M) ∙ mul_assoc M D E))

mul_small : (x y : Float) (M : ℕ) → M ≤ 2 ^ 24 → Small x 1 → Small y M → Small (mul binary32 x y) M
unfolding mul
mul_small nan y M b h k = absurd h
mul_small (inf s) y M b h k = absurd h
mul_small (fin s m e) nan M b h k = absurd k
mul_small (fin s m e) (inf t) M b h k = absurd k
mul_small (fin s m e) (fin t n d) M b h k =
    small_round (unlike s t) (m * up e * (n * up d)) (down e * down d) M (mul-pos (down_pos e) (down_pos d)) b (product (m * up e) (down e) (n * up d) (down d) M h k)

epsilon_small : (s : Bool) → Small (signed s robust_epsilon) 1
unfolding signed of_bits
epsilon_small s = lit≤ tt

-- ---- a
module _ (s0 s1 : Vec2) (x y : ℕ) (h : Spotted s0 s1 x y) (ordered : lt s1.y s0.y ≡ false) where
  abbrev m : Slope
  m = slope_of s0 s1

  dx_small : Small m.dx 1
  unfolding slope_of
  dx_small = apart_small s0.x s1.x x h.start_x h.end_x

  dy_is : m.dy ≡ abs_of (sub binary32 s1.y s0.y)
  unfolding slope_of
  dy_is = apart_down s0.y s1.y y h.start_y h.end_y ordered

  dy_small : Small m.dy 1
  dy_small = subst (λ (z : Float). Small z 1) (sym dy_is) (apart_small s0.y s1.y y h.start_y h.end_y)

  pub total_stands : Stands (add binary32 m.dx m.dy)
  unfolding slope_of
  total_stands =
      stands (add binary32 m.dx m.dy) (small_finite (add binary32 m.dx m.dy) 2 (add_small m.dx m.dy 1 1 (lit≤ tt) dx_small dy_small))
      (subst (λ (z : Float). le short (add binary32 m.dx z) ≡ true) (sym dy_is) h.long)

  over : Small m.idxdy 1048576
  unfolding slope_of
  over = over_small (add binary32 m.dx m.dy) total_stands

  pub a_small : (k : Counts) (b : Float) → Small (a_of m k b) 1048577
  unfolding a_of
  a_small k b = go (ne err zero_f)
    where
      a0 : Float
      a0 = mul binary32 m.dx m.idxdy

      a0_small : Small a0 1048576
      a0_small = mul_small m.dx m.idxdy 1048576 (lit≤ tt) dx_small over

      err : Float
      err = sub binary32 (floor_of (add binary32 (mul binary32 a0 (sub binary32 (float k.count) one)) b)) (float k.count_x)

      go : (t : Bool) → Small (cond t (sub binary32 a0 (copysign_of robust_epsilon err)) a0) 1048577
      go true = sub_small a0 (copysign_of robust_epsilon err) 1048576 1 (lit≤ tt) a0_small (epsilon_small (sign_of err))
      go false = small_more a0 1048576 1048577 (lit≤ tt) a0_small

-- ---- b
ulp_number : T (not (is_nan one_minus_ulp))
unfolding is_nan of_bits
ulp_number = tt

-- from 0 to 1 - 2 ^ -24
pub record BelowOne (b : Float) : Type 0 where
  pub plus : Plus b
  pub most : AtMost b 16777215 16777216

plus_most : (b : Float) → Plus b → le b one_minus_ulp ≡ true → AtMost b 16777215 16777216
unfolding sign_of of_bits lt
plus_most nan p h = absurd (unfold le in false≢true h)
plus_most (inf true) (inl p) h = absurd (true≢false p)
plus_most (inf true) (inr p) h = absurd p
plus_most (inf false) p h = absurd (unfold le in false≢true h)
plus_most (fin true m e) (inl p) h = absurd (true≢false p)
plus_most (fin true m e) (inr p) h = omega (arith, ap (λ (z : ℕ). z * up e) p, zero-mul (up e))
plus_most (fin false m e) p h =
    let l : m * up e * 16777216 ≤ 16777215 * 1 * down e = ltb-false (16777215 * 1 * down e) (m * up e * 16777216) (not_lt_of_le (fin false m e) (fin false 16777215 (negsuc 23)) h) in
    omega arith

min_most : (v : Float) → Plus (min_of v one_minus_ulp) → AtMost (min_of v one_minus_ulp) 16777215 16777216
min_most v p = plus_most (min_of v one_minus_ulp) p (min_right v one_minus_ulp ulp_number)

-- ---- a times 0, and b
sum_most : (s t : Bool) (a b c : ℕ) → 0 < c → (a + b) * 16777216 ≤ 16777215 * c → AtMost (sum binary32 s a t b c) 16777215 16777216
unfolding sum
sum_most false false a b c C h = round_most false (a + b) c 16777215 23 C (lit< tt) (lit≤ tt) h
sum_most true true a b c C h = round_most true (a + b) c 16777215 23 C (lit< tt) (lit≤ tt) h
sum_most false true a b c C h = go (ltb a b)
  where
    go : (t : Bool) → AtMost (cond t (round binary32 true (b - a) c) (round binary32 false (a - b) c)) 16777215 16777216
    go true = round_most true (b - a) c 16777215 23 C (lit< tt) (lit≤ tt) (omega arith)
    go false = round_most false (a - b) c 16777215 23 C (lit< tt) (lit≤ tt) (omega arith)
sum_most true false a b c C h = go (ltb a b)
  where
    go : (t : Bool) → AtMost (cond t (round binary32 false (b - a) c) (round binary32 (ltb b a) (a - b) c)) 16777215 16777216
    go true = round_most false (b - a) c 16777215 23 C (lit< tt) (lit≤ tt) (omega arith)
    go false = round_most (ltb b a) (a - b) c 16777215 23 C (lit< tt) (lit≤ tt) (omega arith)

beside : (A B D E : ℕ) → A ≡ 0 → B * 16777216 ≤ 16777215 * E → (A + B * D) * 16777216 ≤ 16777215 * (D * E)
beside A B D E z h = let k = mul-le-mul_right D h in omega (arith, mul_assoc B D 16777216, mul_comm D 16777216, mul_assoc B 16777216 D, mul_assoc 16777215 E D, mul_comm E D)

none_most : (x y : Float) → Zero x → AtMost y 16777215 16777216 → AtMost (add binary32 x y) 16777215 16777216
unfolding add
none_most nan y z h = absurd z
none_most (inf s) y z h = absurd z
none_most (fin s m e) nan z h = absurd h
none_most (fin s m e) (inf t) z h = absurd h
none_most (fin s m e) (fin t n d) z h =
    sum_most s t (m * up e * down d) (n * up d * down e) (down e * down d) (mul-pos (down_pos e) (down_pos d))
    (beside (m * up e * down d) (n * up d) (down e) (down d) (ap (λ (k : ℕ). k * up e * down d) z ∙ ap (λ (k : ℕ). k * down d) (zero-mul (up e)) ∙ zero-mul (down d)) h)

times_none : (a : Float) → T (finite a) → Zero (mul binary32 a (float 0))
unfolding mul of_int round
times_none nan f = absurd f
times_none (inf s) f = absurd f
times_none (fin s m e) f = round_none (unlike s false) (m * up e * (0 * 1)) (down e * 1) (omega (arith, down_pos e)) (omega arith)

-- ---- z
floor_none : (v : Float) → Plus v → AtMost v 16777215 16777216 → floor_z v ≡ pos 0
unfolding floor_z sign_of
floor_none nan p h = refl
floor_none (inf s) p h = refl
floor_none (fin false m e) p h = ap pos (div_is (m * up e) (down e) 0 (omega arith) (omega (arith, down_pos e)))
floor_none (fin true m e) (inl p) h = absurd (true≢false p)
floor_none (fin true m e) (inr p) h =
    let z : m * up e ≤ 0 * down e = omega (arith, ap (λ (k : ℕ). k * up e) p, zero-mul (up e)) in
    let u : up_div (m * up e) (down e) ≡ 0 = omega (arith, up_most (m * up e) (down e) 0 (down_pos e) z) in
    ap (λ (k : ℕ). neg_ℤ (pos k)) u

most_finite : (v : Float) → AtMost v 16777215 16777216 → T (finite v)
most_finite nan h = h
most_finite (inf s) h = h
most_finite (fin s m e) h = tt

pub z_none : (a b : Float) → T (finite a) → BelowOne b → IsWhole (z_at a b (float 0)) (pos 0)
unfolding z_at
z_none a b f s =
    let v = add binary32 (mul binary32 a (float 0)) b in
    let z = times_none a f in
    let l = none_most (mul binary32 a (float 0)) b z s.most in
    subst (λ (n : ℤ). IsWhole (floor_of v) n) (floor_none v (add_plus (mul binary32 a (float 0)) b (inr z) s.plus) l)
    (floor_whole v (add-fits binary32 (mul binary32 a (float 0)) b) (most_finite v l))

pub b_starts : (s0 s1 : Vec2) → Scaled s0 → Scaled s1 → lt s1.y s0.y ≡ false → BelowOne (b_of (slope_of s0 s1) s0)
unfolding b_of
b_starts s0 s1 h k o = let p = (start_in s0 s1 h k o).plus in record { plus = p; most = min_most _ p }
