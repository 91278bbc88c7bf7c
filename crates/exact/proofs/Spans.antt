-- A span by the smaller and the larger end, each picked by one comparison, and cast without loss: it is a whole number from 1 up, and small. Assumes nothing.
use mathlib.Core.Path.{◌≡◌, refl, sym, ap, ◌∙◌}
use mathlib.Core.Bool.{Bool, true, false, cond, true≢false}
use Prim.Native.Nat.{ℕ, zero, suc, ◌+◌, ◌*◌, ◌/◌, ◌%◌, ◌^◌, ◌≤◌, ◌<◌}
use native.Mathlib.Nat.{mul-mod_left, mul-div_cancel}
use native.Mathlib.Omega.{arith}
use lib.Dec.{T}
use lib.IntN.{ℤ, pos, negsuc, ◌-ℤ◌, neg_ℤ, nat_abs}
use lib.Signed.{lt_z}
use lib.Ieee.{Float, nan, inf, fin, binary32, up, down, sub, lt, le, is_nan, of_bits, to_unsigned, in_unsigned, whole as is_whole}
use lib.Ieee.Fits.{down_pos}
use borrow.Author.Tests.{eq-eqb, le-leb, lt-ltb}
use Rattle.float32.specs.Meaning.{floor_of, ceil_of, min_of, max_of}
use Rattle.float32.proofs.Alike.{Alike, alike_lt, alike_ge, alike_nan, alike_floor, alike_ceil, alike_sub, alike_cast, alike_choice}
use Rattle.float32.proofs.MinMax.{min_alike, max_alike}
use Rattle.util.specs.Constants.{one}
use Rattle.util.specs.Span.{span_of}
use Rattle.exact.specs.Whole.{IsWhole, floor_z, ceil_z}
use Rattle.exact.specs.Reach.{coord_tiles, Near}
use Rattle.exact.proofs.Limits.{far}
use Rattle.exact.proofs.Signs.{plus_of, neg_plus, abs_sum, abs_neg}
use Rattle.exact.proofs.Exact.{floor_whole, sub_whole}
use Rattle.exact.proofs.Compare.{lt_whole}
use Rattle.exact.proofs.Bounds.{floor_small, ceil_small, ceil_whole, near_finite}

-- the tiles from the floor of the smaller to the ceiling of the larger: 0 where both are one whole number
abbrev pub span_at : (a b : Float) → Float
span_at a b = sub binary32 (ceil_of (cond (lt a b) b a)) (floor_of (cond (lt b a) b a))

-- ---- no NaN, so the picks are the smaller and the larger
near_number : (x : Float) → Near x → is_nan x ≡ false
unfolding is_nan
near_number nan h = absurd h.few
near_number (inf s) h = absurd h.few
near_number (fin s m e) h = refl

whole_number : (x : Float) (n : ℤ) → IsWhole x n → is_nan x ≡ false
unfolding is_nan
whole_number nan n w = absurd w
whole_number (inf s) n w = absurd w
whole_number (fin s m e) n w = refl

-- what is held against the smaller may be held against the pick: no comparison tells two zeros apart
pub smaller_ge : (a b e : Float) → Near a → le e (min_of a b) ≡ le e (cond (lt b a) b a)
smaller_ge a b e h = alike_ge (min_of a b) (cond (lt b a) b a) (min_alike a b (near_number a h)) e

-- ---- the span is whole, and small
pub near_pick : (t : Bool) (a b : Float) → Near a → Near b → Near (cond t b a)
near_pick true a b h k = k
near_pick false a b h k = h

abbrev span_z : (a b : Float) → ℤ
span_z a b = ceil_z (cond (lt a b) b a) -ℤ floor_z (cond (lt b a) b a)

module _ (a b : Float) (h : Near a) (k : Near b) where
  abbrev u : Float
  u = cond (lt a b) b a

  abbrev v : Float
  v = cond (lt b a) b a

  span_few : nat_abs (span_z a b) ≤ coord_tiles + coord_tiles
  span_few =
      omega (arith, abs_sum (ceil_z u) (neg_ℤ (floor_z v)), abs_neg (floor_z v), ceil_small u coord_tiles (near_pick (lt a b) a b h k).few, floor_small v coord_tiles (near_pick (lt b a) a b h k).few)

  span_whole : IsWhole (span_at a b) (span_z a b)
  span_whole =
      let p = near_pick (lt a b) a b h k in
      let q = near_pick (lt b a) a b h k in
      sub_whole (ceil_of u) (floor_of v) (ceil_z u) (floor_z v) (ceil_whole u p.fit (near_finite u p)) (floor_whole v q.fit (near_finite v q)) (omega (arith, span_few, far.tiles))

-- ---- the span by the picks: no floor, ceiling, difference or cast tells two zeros apart
module _ (a b : Float) (h : Near a) (k : Near b) where
  abbrev d : Float
  d = sub binary32 (ceil_of (max_of a b)) (floor_of (min_of a b))

  apart_alike : Alike d (span_at a b)
  apart_alike =
      let n = near_number a h in
      alike_sub (ceil_of (max_of a b)) (ceil_of (cond (lt a b) b a)) (floor_of (min_of a b)) (floor_of (cond (lt b a) b a))
      (alike_ceil (max_of a b) (cond (lt a b) b a) (max_alike a b n)) (alike_floor (min_of a b) (cond (lt b a) b a) (min_alike a b n))

  one_alike : Alike (cond (lt d one) one d) (cond (lt (span_at a b) one) one (span_at a b))
  one_alike = rw (alike_lt d (span_at a b) apart_alike one) (alike_choice (lt (span_at a b) one) one d (span_at a b) apart_alike)

  span_is : span_of a b ≡ to_unsigned 32 (cond (lt (span_at a b) one) one (span_at a b))
  unfolding span_of
  span_is =
      alike_cast (max_of d one) (cond (lt d one) one d)
      (max_alike d one (alike_nan d (span_at a b) apart_alike ∙ whole_number (span_at a b) (span_z a b) (span_whole a b h k)))
      ∙ alike_cast (cond (lt d one) one d) (cond (lt (span_at a b) one) one (span_at a b)) one_alike

-- ---- casts
pub one_whole : IsWhole one (pos 1)
unfolding of_bits
one_whole = (1, refl, refl)

one_cast : T (in_unsigned binary32 32 one)
unfolding of_bits in_unsigned is_whole
one_cast = tt

-- a whole number from 1 up isn't -0, so it is cast without loss
pub pos_cast : (v : Float) (n : ℕ) → IsWhole v (pos (suc n)) → n < 2 ^ 24 → T (in_unsigned binary32 32 v) × (to_unsigned 32 v ≡ suc n)
unfolding in_unsigned is_whole to_unsigned
pos_cast nan n w h = absurd w
pos_cast (inf s) n w h = absurd w
pos_cast (fin true m e) n w h = absurd (omega (arith, ap plus_of w.2, neg_plus (pos w.0)))
pos_cast (fin false m e) n w h =
    let k : w.0 ≡ suc n = omega (arith, ap plus_of w.2) in
    let q : m * up e / down e ≡ suc n = ap (λ (j : ℕ). j / down e) w.1 ∙ mul-div_cancel w.0 (down_pos e) ∙ k in
    let r : m * up e % down e ≡ 0 = ap (λ (j : ℕ). j % down e) w.1 ∙ mul-mod_left w.0 (down e) in (
      rw (eq-eqb (m * up e % down e) 0 r, le-leb (m * up e / down e) 16777216 (omega arith), lt-ltb (m * up e / down e) 4294967296 (omega arith)) tt,
      omega arith,
    )

least_cast : (x : Float) (n : ℤ) → IsWhole x n → nat_abs n ≤ 2 ^ 24 → lt_z n (pos 1) ≡ false → T (in_unsigned binary32 32 x)
least_cast x (pos (suc n)) w b h = (pos_cast x n w (omega arith)).0
least_cast x (pos zero) w b h = absurd (true≢false h)
least_cast x (negsuc n) w b h = absurd (true≢false h)

-- the larger of it and 1
at_least_one : (d : Float) (n : ℤ) → IsWhole d n → nat_abs n ≤ 2 ^ 24 → T (in_unsigned binary32 32 (cond (lt d one) one d))
at_least_one d n w b = go (lt d one) (lt_whole d one n (pos 1) w one_whole)
  where
    go : (t : Bool) → t ≡ lt_z n (pos 1) → T (in_unsigned binary32 32 (cond t one d))
    go true e = one_cast
    go false e = least_cast d n w b (sym e)

pub span_cast : (a b : Float) → Near a → Near b
    → T (in_unsigned binary32 32 (cond (lt (span_at a b) one) one (span_at a b))) × (to_unsigned 32 (cond (lt (span_at a b) one) one (span_at a b)) ≡ span_of a b)
span_cast a b h k =
    let w = span_whole a b h k in
    let c = span_few a b h k in (
      at_least_one (span_at a b) (span_z a b) w (omega (arith, c, far.tiles)),
      sym (span_is a b h k),
    )
