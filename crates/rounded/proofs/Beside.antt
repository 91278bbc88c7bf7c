-- A column beside a part gets exactly nothing of its height, or exactly all of it: nothing where the part lies right of the column, and all where it lies left of it, no further
-- than a tile's width. Assumes nothing.
--     share_left     both ends lie right of the column
--     share_right    both ends lie left of it
use mathlib.Core.Path.{◌≡◌, refl, sym, ap, subst, ◌∙◌}
use mathlib.Core.Bool.{false, not}
use mathlib.Core.Logic.{inl}
use lib.Dec.{T}
use lib.Ieee.{Float, binary32, sum, round, add, sub, mul, div, neg, lt, eq, le, fits, is_nan, of_bits}
use lib.Ieee.Fits.{sub-fits}
use lib.Ieee.Scale.{finite}
use Rattle.util.specs.Constants as Number
use Rattle.float32.specs.Meaning.{max_of}
use Rattle.float32.proofs.Alike.{alike_sub}
use Rattle.float32.proofs.Laws.{zero_plus}
use Rattle.float32.proofs.MinMax.{min_first}
use Rattle.rounded.specs.Share.{held_by, quot_of, share_of}
use Rattle.rounded.proofs.Rises.{sub_rises, sub_falls, at_most_trans}
use Rattle.rounded.proofs.Numbers.{zero_number, one_number, sub_number, less_number, between}
use Rattle.rounded.proofs.Cuts.{up_to_one, under_one, from_zero}
use Rattle.rounded.proofs.Zeros.{tiny, zero_is, no_zero, itself, nothing_over, add_none, same_as}
use Rattle.rounded.proofs.Epsilon.{far_left, some_left}

-- ---- both ends right of the column
abbrev almost : Float
almost = sub binary32 Number.one Number.epsilon

nothing_left : sub binary32 (held_by almost Number.one) almost ≡ Number.zero
unfolding max_of of_bits sub add mul neg sum round lt eq le is_nan
nothing_left = refl

above_almost : lt (sub binary32 Number.one almost) tiny ≡ false
unfolding of_bits sub add neg sum round lt
above_almost = refl

almost_finite : T (finite almost)
unfolding of_bits sub add neg sum round
almost_finite = tt

pub share_left : (x y : Float) → T (fits binary32 x) → T (fits binary32 y) → T (not (is_nan y)) → lt x Number.one ≡ false → lt y Number.one ≡ false → share_of x y ≡ Number.zero
share_left x y f k n h l =
    ap (λ (z : Float). quot_of (sub binary32 z Number.epsilon) y) (up_to_one x f h)
    ∙ ap (λ (z : Float). div binary32 (sub binary32 (held_by almost z) almost) (sub binary32 y almost)) (up_to_one y k l)
    ∙ ap (λ (z : Float). div binary32 z (sub binary32 y almost)) (nothing_left ∙ zero_is)
    ∙ nothing_over (sub binary32 y almost) (less_number y almost n almost_finite) far
    ∙ sym zero_is
  where
    far : lt (sub binary32 y almost) tiny ≡ false
    far =
        at_most_trans tiny (sub binary32 Number.one almost) (sub binary32 y almost) (less_number Number.one almost one_number almost_finite) above_almost
        (sub_rises Number.one y almost l)

-- ---- both ends left of the column, and no further than a tile's width
nothing_more : mul binary32 Number.half (sub binary32 (mul binary32 Number.zero Number.zero) (mul binary32 Number.zero Number.zero)) ≡ zero_plus
unfolding of_bits sub add mul neg sum round
nothing_more = refl

epsilon_less : lt Number.zero (sub binary32 Number.zero Number.epsilon) ≡ false
unfolding of_bits sub add neg sum round lt
epsilon_less = refl

epsilon_finite : T (finite Number.epsilon)
unfolding of_bits
epsilon_finite = tt

-- the furthest a part lies left of a column, and epsilon more
abbrev furthest : Float
furthest = sub binary32 Number.zero (sub binary32 far_left Number.epsilon)

furthest_finite : T (finite furthest)
unfolding of_bits sub add neg sum round
furthest_finite = tt

module _ (x y : Float) (f : T (fits binary32 x)) (k : T (fits binary32 y)) (n : T (not (is_nan x))) (m : T (not (is_nan y)))
    (order : lt y x ≡ false) (low : lt x far_left ≡ false) (high : lt Number.zero y ≡ false) where
  x_high : lt Number.zero x ≡ false
  x_high = at_most_trans x y Number.zero m order high

  y_low : lt y far_left ≡ false
  y_low = at_most_trans far_left x y n low order

  x_finite : T (finite x)
  x_finite = between far_left Number.zero x tt (unfold of_bits in tt) n low x_high

  y_finite : T (finite y)
  y_finite = between far_left Number.zero y tt (unfold of_bits in tt) m y_low high

  -- the left end less epsilon
  abbrev xmin : Float
  xmin = sub binary32 x Number.epsilon

  xmin_number : T (not (is_nan xmin))
  xmin_number = less_number x Number.epsilon n epsilon_finite

  xmin_high : lt Number.zero xmin ≡ false
  xmin_high =
      at_most_trans xmin (sub binary32 Number.zero Number.epsilon) Number.zero (less_number Number.zero Number.epsilon zero_number epsilon_finite)
      (sub_rises x Number.zero Number.epsilon x_high) epsilon_less

  abbrev gap : Float
  gap = sub binary32 y xmin

  gap_number : T (not (is_nan gap))
  gap_number = sub_number y xmin y_finite xmin_number

  gap_low : lt gap tiny ≡ false
  gap_low =
      at_most_trans tiny (sub binary32 x xmin) gap (sub_number x xmin x_finite xmin_number) (some_left x f (subst (λ (z : Float). lt z x ≡ false) zero_is x_high) low)
      (sub_rises x y xmin order)

  gap_high : lt furthest gap ≡ false
  gap_high =
      at_most_trans gap (sub binary32 Number.zero xmin) furthest (sub_number Number.zero xmin (unfold of_bits in tt) xmin_number) (sub_rises y Number.zero xmin high)
      (sub_falls (sub binary32 far_left Number.epsilon) xmin Number.zero (sub_rises far_left x Number.epsilon low))

  gap_finite : T (finite gap)
  gap_finite = between tiny furthest gap tt furthest_finite gap_number gap_low gap_high

  pub share_right : share_of x y ≡ Number.one
  share_right =
      ap (λ (z : Float). quot_of (sub binary32 z Number.epsilon) y) (min_first x Number.one (under_one x n x_high))
      ∙ ap (λ (z : Float). div binary32 (sub binary32 (held_by xmin z) xmin) gap) (min_first y Number.one (under_one y m high))
      ∙ ap (λ (z : Float). div binary32 (sub binary32 (add binary32 y (mul binary32 Number.half (sub binary32 (mul binary32 z z) (mul binary32 (max_of y Number.zero) (max_of y Number.zero))))) xmin) gap)
      (from_zero xmin (sub-fits binary32 x Number.epsilon) xmin_high)
      ∙ ap (λ (z : Float). div binary32 (sub binary32 (add binary32 y (mul binary32 Number.half (sub binary32 (mul binary32 Number.zero Number.zero) (mul binary32 z z)))) xmin) gap) (from_zero y k high)
      ∙ ap (λ (z : Float). div binary32 (sub binary32 (add binary32 y z) xmin) gap) nothing_more
      ∙ ap (λ (z : Float). div binary32 z gap)
      (same_as (sub binary32 (add binary32 y zero_plus) xmin) gap (alike_sub (add binary32 y zero_plus) y xmin xmin (add_none y k) (inl refl)) (no_zero gap gap_low))
      ∙ itself gap gap_finite (no_zero gap gap_low)
