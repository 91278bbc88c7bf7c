-- A float strictly between the whole number t and the next: its floor is t, its ceiling the next, and it lies so by every whole number. Assumes nothing.
use Rattle.std.proofs.Common.{◌≡◌, ℕ, ◌+◌, ◌-◌, ◌*◌, ◌/◌, ◌^◌, ◌<◌, ◌≤◌, Bool, true, false, T, ◌⊎◌, ℤ, negsuc, sym, refl, ap, ◌∙◌, subst, inl, inr, le_trans, le_of_eq, le_of_lt, mul-le-mul_right, mul_assoc, add-mul, mul-pos, one-mul, mul_right_comm, le_of_mul-le-mul_right, arith, lit<, le-ltb, lt-ltb}
use mathlib.Core.Bool.{false≢true}
use lib.Ieee.{Float, nan, inf, fin, binary32, up, down, unlike, round, mul, sub, lt, le, eq, fits, is_nan, of_int, of_bits, to_unsigned}
use lib.Ieee.Bits.{is_true}
use lib.Ieee.Exact.{HasValue}
use lib.Ieee.Fits.{down_pos}
use lib.Ieee.Order.{round_mono}
use Rattle.float32.specs.Meaning.{whole, up_div, floor_of, ceil_of, abs_of, sign_of, min_of, max_of}
use Rattle.float32.proofs.Tests.{below_or_not}
use Rattle.float32.proofs.Whole.{whole_value}
use Rattle.float32.proofs.Floors.{up_more}
use Rattle.float32.proofs.Magic.{div_is}
use Rattle.float32.proofs.MinMax.{min_picks, max_picks}
use Rattle.float32.proofs.Order.{not_lt_of_le, eq_not_lt}
use Rattle.util.specs.Constants.{one}
use Rattle.util.specs.Span.{span_of}
use Rattle.exact.specs.Whole.{Small}
use Rattle.exact.specs.Reach.{in_reach, scaled, coord_tiles}
use Rattle.exact.proofs.Bounds.{le_of_small, scale_is}
use Rattle.exact.proofs.Limits.{far}
use Rattle.errors.specs.Sizes.{parts, Is}
use Rattle.errors.proofs.Parts.{parts_pos}
use Rattle.errors.proofs.Sizes.{abs_round}
use Rattle.margin.proofs.Ends.{value_less, value_lt, value_scale, floor_at, ceil_at}
use Rattle.walk.specs.Num.{float}

pub record Off (s : Float) (t : ℕ) : Type 0 where
  pub n : ℕ
  pub is : Is s n
  pub fit : T (fits binary32 s)
  pub low : t * parts < n
  pub high : n < t * parts + parts

-- a whole number as a float, in parts
pub number_value : (i : ℕ) → i ≤ 2 ^ 24 → HasValue (float i) false i 1
unfolding of_int
number_value i h = whole_value false i h

number_parts : (i : ℕ) → i ≤ 2 ^ 24 → Is (float i) (i * parts)
number_parts i h = value_scale (float i) false i parts (number_value i h)

pub next_parts : (t : ℕ) → (t + 1) * parts ≡ t * parts + parts
next_parts t = add-mul t 1 parts ∙ ap (λ (z : ℕ). t * parts + z) (one-mul parts)

module _ (s : Float) (t : ℕ) (o : Off s t) where
  tile_is : o.n / parts ≡ t
  tile_is = div_is o.n parts t (le_of_lt o.low) o.high

  pub off_floor : floor_of s ≡ whole false t
  off_floor = floor_at s o.n parts parts_pos o.is ∙ ap (whole false) tile_is

  pub off_up : up_div o.n parts ≡ t + 1
  off_up = up_more o.n parts parts_pos (subst (λ (z : ℕ). z * parts < o.n) (sym tile_is) o.low) ∙ ap (λ (z : ℕ). z + 1) tile_is

  pub off_ceil : ceil_of s ≡ whole false (t + 1)
  off_ceil = ceil_at s o.n parts parts_pos o.is ∙ ap (whole false) off_up

  -- the whole numbers up to t lie below, and those from t + 1 on above
  pub not_before : (e : ℕ) → e ≤ t → e ≤ 2 ^ 24 → lt s (float e) ≡ false
  not_before e h b =
      value_lt s (float e) o.n (e * parts) parts parts_pos o.is (number_parts e b) ∙ le-ltb o.n (e * parts) (le_trans (mul-le-mul_right parts h) (le_of_lt o.low))

  above : (e : ℕ) → t + 1 ≤ e → o.n < e * parts
  above e h = let k = mul-le-mul_right parts h in omega (arith, o.high, next_parts t)

  pub not_past : (e : ℕ) → t + 1 ≤ e → e ≤ 2 ^ 24 → lt (float e) s ≡ false
  not_past e h b = value_lt (float e) s (e * parts) o.n parts parts_pos (number_parts e b) o.is ∙ le-ltb (e * parts) o.n (le_of_lt (above e h))

  pub before : (e : ℕ) → t + 1 ≤ e → e ≤ 2 ^ 24 → lt s (float e) ≡ true
  before e h b = value_lt s (float e) o.n (e * parts) parts parts_pos o.is (number_parts e b) ∙ lt-ltb o.n (e * parts) (above e h)

  pub not_from : (e : ℕ) → t + 1 ≤ e → e ≤ 2 ^ 24 → le (float e) s ≡ false
  not_from e h b = go (le (float e) s) refl
    where
      go : (r : Bool) → le (float e) s ≡ r → le (float e) s ≡ false
      go false q = q
      go true q = absurd (false≢true (sym (not_lt_of_le (float e) s q) ∙ before e h b))

  -- it is no whole number
  pub off_edge : t ≤ 2 ^ 24 → eq (floor_of s) s ≡ false
  off_edge b = go (eq (floor_of s) s) refl
    where
      over : lt (floor_of s) s ≡ true
      over =
          ap (λ (f : Float). lt f s) off_floor
          ∙ value_lt (whole false t) s (t * parts) o.n parts parts_pos (value_scale (whole false t) false t parts (whole_value false t b)) o.is
          ∙ lt-ltb (t * parts) o.n o.low

      go : (r : Bool) → eq (floor_of s) s ≡ r → eq (floor_of s) s ≡ false
      go false q = q
      go true q = absurd (false≢true (sym (eq_not_lt (floor_of s) s q) ∙ over))

-- ---- two such floats are in one tile
one_is : to_unsigned 32 (max_of (whole false 1) one) ≡ 1
unfolding to_unsigned max_of round of_bits lt eq is_nan sign_of
one_is = refl

pub off_span : (u v : Float) (t : ℕ) → Off u t → Off v t → t + 1 ≤ 2 ^ 24 → span_of u v ≡ 1
unfolding span_of
off_span u v t o p b = rw (high (max_picks u v), low (min_picks u v), gap) one_is
  where
    high : (max_of u v ≡ u) ⊎ (max_of u v ≡ v) → ceil_of (max_of u v) ≡ whole false (t + 1)
    high (inl e) = ap ceil_of e ∙ off_ceil u t o
    high (inr e) = ap ceil_of e ∙ off_ceil v t p

    low : (min_of u v ≡ u) ⊎ (min_of u v ≡ v) → floor_of (min_of u v) ≡ whole false t
    low (inl e) = ap floor_of e ∙ off_floor u t o
    low (inr e) = ap floor_of e ∙ off_floor v t p

    less : (t : ℕ) → t + 1 - t ≡ 1
    less t = omega arith

    gap : sub binary32 (whole false (t + 1)) (whole false t) ≡ whole false 1
    gap =
        value_less (whole false (t + 1)) (whole false t) (t + 1) t 1 (lit< tt) (whole_value false (t + 1) b) (whole_value false t (omega arith)) (omega arith)
        ∙ ap (λ (z : ℕ). round binary32 false z 1) (less t)

-- ---- in a box they are within the limit of a coordinate
parts_small : (s : Float) (n N : ℕ) → Is s n → n ≤ N * parts → Small s N
parts_small nan n N v h = v
parts_small (inf r) n N v h = v
parts_small (fin r m e) n N v h =
    le_of_mul-le-mul_right (le_trans (le_of_eq v.1) (le_trans (mul-le-mul_right (down e) h) (le_of_eq (mul_right_comm N parts (down e))))) parts_pos

pub off_small : (s : Float) (t N : ℕ) → Off s t → t + 1 ≤ N → Small s N
off_small s t N o h = parts_small s o.n N o.is (le_of_lt (above s t o N h))

-- a coordinate beyond the limit is beyond it in tiles
abs_parts : (s : Float) (n : ℕ) → Is s n → Is (abs_of s) n
unfolding abs_of
abs_parts nan n v = v
abs_parts (inf r) n v = v
abs_parts (fin r m e) n v = (refl, v.1)

in_tiles : (r : Bool) (m : ℕ) (e : ℤ) (t : ℕ) → Off (mul binary32 (fin r m e) (fin false 1 (negsuc 3))) t → t + 1 ≤ coord_tiles → m * up e ≤ coord_tiles * 16 * down e
unfolding mul
in_tiles r m e t o h = go (below_or_not (coord_tiles * (down e * 16)) (m * up e))
  where
    A : ℕ
    A = m * up e * (1 * 1)

    C : ℕ
    C = down e * 16

    w : Float
    w = whole false coord_tiles

    size : Float
    size = round binary32 false A C

    own : Is size o.n
    own = subst (λ (y : Float). Is y o.n) (abs_round (unlike r false) A C) (abs_parts (round binary32 (unlike r false) A C) o.n o.is)

    few : coord_tiles ≤ 2 ^ 24
    few = omega (arith, far.tiles)

    under : lt size w ≡ true
    under =
        value_lt size w o.n (coord_tiles * parts) parts parts_pos own (value_scale w false coord_tiles parts (whole_value false coord_tiles few))
        ∙ lt-ltb o.n (coord_tiles * parts) (above (mul binary32 (fin r m e) (fin false 1 (negsuc 3))) t o coord_tiles h)

    go : (coord_tiles * (down e * 16) < m * up e) ⊎ (m * up e ≤ coord_tiles * (down e * 16)) → m * up e ≤ coord_tiles * 16 * down e
    go (inr l) = omega (arith, mul_assoc coord_tiles 16 (down e), l)
    go (inl l) =
        absurd
        (false≢true
        (sym (not_lt_of_le w size (is_true (le w size) (round_mono binary32 coord_tiles 1 A C (lit< tt) (mul-pos (down_pos e) (lit< tt)) (omega arith)))) ∙ under))

reach_of : (p : Float) (t : ℕ) → Off (mul binary32 p (fin false 1 (negsuc 3))) t → t + 1 ≤ coord_tiles → le (abs_of p) (whole false (coord_tiles * 16)) ≡ true
reach_of nan t o h = absurd (unfold mul in o.is)
reach_of (inf r) t o h = absurd (unfold mul in o.is)
reach_of (fin r m e) t o h = le_of_small (fin r m e) (coord_tiles * 16) (omega (arith, far.tiles)) (in_tiles r m e t o h)

pub off_reach : (p : Float) (t : ℕ) → Off (scaled p) t → t + 1 ≤ coord_tiles → in_reach p ≡ true
off_reach p t o h =
    subst (λ (w : Float). le (abs_of p) w ≡ true) (sym far.coord) (reach_of p t (subst (λ (k : Float). Off (mul binary32 p k) t) scale_is o) h)
