-- How far two floats of one tile are apart, either way round, and by the smaller and the larger. Assumes nothing.
use Rattle.std.proofs.Common.{◌≡◌, ℕ, ◌+◌, ◌-◌, ◌*◌, ◌<◌, ◌≤◌, Bool, true, false, cond, ltb, sym, refl, ap, ◌∙◌, le_of_lt, arith, lit≤, ltb-false, ltb-true}
use lib.Ieee.{Float, binary32, round, sub, lt}
use Rattle.float32.specs.Meaning.{abs_of}
use Rattle.exact.specs.Whole.{Small}
use Rattle.exact.proofs.Bounds.{small_round}
use Rattle.errors.specs.Sizes.{parts}
use Rattle.errors.proofs.Parts.{parts_pos}
use Rattle.margin.proofs.Ends.{value_less, value_apart, value_lt}
use Rattle.spot.proofs.InTile.{Off}

module _ (u v : Float) (t : ℕ) (o : Off u t) (p : Off v t) where
  abbrev way : ℕ
  way = p.n - o.n + (o.n - p.n)

  apart_is : abs_of (sub binary32 v u) ≡ round binary32 false way parts
  apart_is = value_apart v u p.n o.n parts parts_pos p.is o.is

  lt_is : lt v u ≡ ltb p.n o.n
  lt_is = value_lt v u p.n o.n parts parts_pos p.is o.is

  -- v is not the smaller
  pub apart_down : lt v u ≡ false → sub binary32 v u ≡ abs_of (sub binary32 v u)
  apart_down e =
      let h : o.n ≤ p.n = ltb-false p.n o.n (sym lt_is ∙ e) in
      let s : p.n - o.n ≡ way = omega arith in
      value_less v u p.n o.n parts parts_pos p.is o.is h ∙ ap (λ (z : ℕ). round binary32 false z parts) s ∙ sym apart_is

  apart_up : lt v u ≡ true → sub binary32 u v ≡ abs_of (sub binary32 v u)
  apart_up e =
      let h : p.n < o.n = ltb-true p.n o.n (sym lt_is ∙ e) in
      let s : o.n - p.n ≡ way = omega arith in
      value_less u v o.n p.n parts parts_pos o.is p.is (le_of_lt h) ∙ ap (λ (z : ℕ). round binary32 false z parts) s ∙ sym apart_is

  pub stretch_is : sub binary32 (cond (lt v u) u v) (cond (lt v u) v u) ≡ abs_of (sub binary32 v u)
  stretch_is = go (lt v u) refl
    where
      go : (b : Bool) → lt v u ≡ b → sub binary32 (cond b u v) (cond b v u) ≡ abs_of (sub binary32 v u)
      go true e = apart_up e
      go false e = apart_down e

  -- they are less than a tile apart
  pub apart_small : Small (abs_of (sub binary32 v u)) 1
  apart_small =
      let h : way ≤ 1 * parts = omega (arith, o.low, o.high, p.low, p.high) in
      rw apart_is (small_round false way parts 1 parts_pos (lit≤ tt) h)

-- and so the other way round
pub apart_turned : (u v : Float) (t : ℕ) → Off u t → Off v t → abs_of (sub binary32 v u) ≡ abs_of (sub binary32 u v)
apart_turned u v t o p =
    apart_is u v t o p ∙ ap (λ (z : ℕ). round binary32 false z parts) (swapped o.n p.n) ∙ sym (apart_is v u t p o)
  where
    swapped : (a b : ℕ) → b - a + (a - b) ≡ a - b + (b - a)
    swapped a b = omega arith
