-- `float32::round` meets its contract: near 0 by a shift of the size up to where the floats are whole and back (`Halves.antt`); from 2 ^ 23 up x is whole. Assumes nothing.
use mathlib.Core.Path.{◌≡◌, refl, sym, ap, ◌∙◌, subst}
use mathlib.Core.Bool.{Bool, true, false, not, cond}
use Prim.Native.Nat.{◌+◌, ◌-◌, ◌%◌, ◌<◌}
use native.Mathlib.Omega.{arith}
use lib.Dec.{T}
use lib.IntN.{pos}
use lib.Ieee.{Float, fin, binary32, fits, is_nan, le, add, sub, neg, of_bits, to_bits}
use Rattle.float32.specs.Meaning.{abs_of, round_of, sign_of, signed, unit}
use Rattle.float32.proofs.Tests.{yes}
use Rattle.float32.proofs.Fields.{abs_bits, abs_no_nan, no_nan_bits, put_fits, put_sign}
use Rattle.float32.proofs.Nearest.{half}
use Rattle.float32.proofs.Laws.{round_to_fits, round_to_no_nan}
use Rattle.float32.proofs.Halves.{even, within, within_real, round_within, round_far, round_plus, round_signed, none_added}
use Rattle.float32.proofs.round.Goals as goal
use Rattle.float32.proofs.round.Goals.{After-pick}

-- of an x below 2 ^ 23 in size
module _ (x : Float) (h : T (fits binary32 x)) (l : within x ≡ true) where
  real : T (not (is_nan x))
  real = within_real x l

  -- to the even one 1 is added, or nothing
  more : (t : Bool) → le (half false) (sub binary32 (abs_of x) (even (abs_of x))) ≡ t → add binary32 (even (abs_of x)) (cond t (unit false) (fin false 0 (pos 0))) ≡ round_of (abs_of x)
  more true q = (round_within x h l).more q
  more false q = ap (λ (z : Float). add binary32 z (fin false 0 (pos 0))) ((round_within x h l).stay q)
      ∙ none_added (round_of (abs_of x)) (round_to_fits (abs_of x)) (round_to_no_nan (abs_of x) (abs_no_nan x real)) (round_plus x)

  -- y is its size, p what is added
  near : (y p : Float) → y ≡ abs_of x → p ≡ cond (le (half false) (sub binary32 y (even y))) (unit false) (fin false 0 (pos 0)) → add binary32 (even y) p ≡ round_of (abs_of x)
  near y p e w = ap (add binary32 (even y)) w
      ∙ ap (λ (z : Float). add binary32 (even z) (cond (le (half false) (sub binary32 z (even z))) (unit false) (fin false 0 (pos 0)))) e
      ∙ more (le (half false) (sub binary32 (abs_of x) (even (abs_of x)))) refl

  module _ (n : Float) (e : n ≡ round_of (abs_of x)) where
    fit : T (fits binary32 n)
    fit = subst (λ (z : Float). T (fits binary32 z)) (sym e) (round_to_fits (abs_of x))

    some : T (not (is_nan n))
    some = subst (λ (z : Float). T (not (is_nan z))) (sym e) (round_to_no_nan (abs_of x) (abs_no_nan x real))

    plus : sign_of n ≡ false
    plus = ap sign_of e ∙ round_plus x

    put : of_bits binary32 (to_bits binary32 n + (to_bits binary32 x - to_bits binary32 x % 2147483648)) ≡ round_of x
    put = put_sign x n h real fit some plus ∙ ap (signed (sign_of x)) e ∙ round_signed x

    room : to_bits binary32 n + (to_bits binary32 x - to_bits binary32 x % 2147483648) < 4294967296
    room = put_fits x n h real fit some plus

-- what is left of the size
left : (c : After-pick) → add binary32 (even (of_bits binary32 (to_bits binary32 c.args.x % 2147483648))) c.pick.result ≡ round_of (abs_of c.args.x)
unfolding of_bits neg
left c =
    let x = c.args.x in
    let h = yes c.well_formed.0.1 in
    near x h c.if-x.true (of_bits binary32 (to_bits binary32 x % 2147483648)) c.pick.result (abs_bits x h) c.pick.ensures

pub float_to_bits-b : goal.float_to_bits-b
unfolding of_bits neg
float_to_bits-b c = within_real c.args.x c.if-x.true

pub float_from_bits-size : goal.float_from_bits-size
unfolding of_bits neg
float_from_bits-size c =
    let x = c.args.x in
    no_nan_bits _ (abs_of x) (abs_bits x (yes c.well_formed.0.1)) (abs_no_nan x (within_real x c.if-x.true))

pub float_to_bits-result : goal.float_to_bits-result
unfolding of_bits neg
float_to_bits-result c = some c.args.x (yes c.well_formed.0.1) c.if-x.true _ (left c)

pub overflow_add-result : goal.overflow_add-result
unfolding of_bits neg
overflow_add-result c = omega (arith, room c.args.x (yes c.well_formed.0.1) c.if-x.true _ (left c))

pub float_from_bits-result : goal.float_from_bits-result
unfolding of_bits neg
float_from_bits-result c =
    let x = c.args.x in
    no_nan_bits _ (round_of x) (put x (yes c.well_formed.0.1) c.if-x.true _ (left c)) (round_to_no_nan x (within_real x c.if-x.true))

pub returns-then-x : goal.returns-then-x
unfolding of_bits neg
returns-then-x c = put c.args.x (yes c.well_formed.0.1) c.if-x.true _ (left c)

pub returns-else-x : goal.returns-else-x
unfolding of_bits neg
returns-else-x c = round_far c.args.x (yes c.well_formed.0.1) c.if-x.false
