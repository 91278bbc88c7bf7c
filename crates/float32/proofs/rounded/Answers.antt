-- `float32::rounded` meets its contract: the units kept are those of `closest`, and `nearest_is` says the rest. Assumes nothing.
use mathlib.Core.Path.{◌≡◌, ◌∙◌}
use Prim.Native.Nat.{ℕ, ◌*◌, ◌/◌, ◌%◌, ◌^◌, ◌≤◌, ◌<◌, compare}
use native.Mathlib.Nat.{mod-lt, le_trans, lt_of_lt_of_le}
use native.Mathlib.Omega.{arith}
use lib.Pow.{pow_pos, pow_mono}
use lib.IntN.{pos}
use lib.Ieee.{binary32, of_bits, of_int}
use lib.Ieee.Nearest.{closest}
use lib.Ieee.Fits.{nearest-le}
use Rattle.float32.specs.Inner.{lost_of}
use Rattle.float32.proofs.Tests.{shifted}
use Rattle.float32.proofs.Fields.{no_nan_bits}
use Rattle.float32.proofs.Ints.{bits, lost_few, quotient_lt, units_more, units_same, nearest_is, int_no_nan}
use Rattle.float32.proofs.rounded.Goals as goal
use Rattle.float32.proofs.rounded.Goals.{then-unit-rest, else-unit-rest, Joined-unit-rest}

module _ (n k : ℕ) (large : 2 ^ 24 ≤ n) (is : k ≡ lost_of n) (fit : n < 2 ^ 32) where
  few : k ≤ 8
  few = rw is (lost_few n fit)

  unit_is : 1 * 2 ^ k % 4294967296 ≡ 2 ^ k
  unit_is = shifted k (omega (arith, few))

  unit_pos : 0 < 1 * 2 ^ k % 4294967296
  unit_pos = rw unit_is (pow_pos k)

  rest_lt : n % (1 * 2 ^ k % 4294967296) < 256
  rest_lt = lt_of_lt_of_le (mod-lt n unit_pos) (rw unit_is (pow_mono few))

  quotient : n / 2 ^ k < 2 ^ 24
  quotient = rw is (quotient_lt n large)

  kept_most : closest n (2 ^ k) ≤ 2 ^ 24
  kept_most = le_trans (nearest-le (n / 2 ^ k) (compare (n % 2 ^ k * 2) (2 ^ k))) quotient

  whole_is : (m : ℕ) → m ≡ closest n (2 ^ k) → of_bits binary32 (bits k m) ≡ of_int binary32 (pos n)
  whole_is m e = rw (e, is) (nearest_is n large fit)

-- where the arms meet
kept_is : (c : Joined-unit-rest) → c.if-unit-rest.kept ≡ closest c.args.n (2 ^ c.args.k)
kept_is c =
    let u = unit_is c.args.n c.args.k c.requires.0 c.requires.1 (omega arith) in
    elim c.if-unit-rest.branch [ then-unit-rest w ↦ w.kept-is ∙ units_more _ _ (rw u at w.if-unit-rest.true) | else-unit-rest w ↦ w.kept-is ∙ units_same _ _ (rw u at w.if-unit-rest.false) ]

pub overflow_shl-unit : goal.overflow_shl-unit
overflow_shl-unit c = omega (arith, few c.args.n c.args.k c.requires.0 c.requires.1 (omega arith))

pub overflow_shr-q : goal.overflow_shr-q
overflow_shr-q c = omega (arith, few c.args.n c.args.k c.requires.0 c.requires.1 (omega arith))

pub nonzero_rem-rest : goal.nonzero_rem-rest
nonzero_rem-rest c = unit_pos c.args.n c.args.k c.requires.0 c.requires.1 (omega arith)

pub overflow_mul-rest : goal.overflow_mul-rest
overflow_mul-rest c = omega (arith, rest_lt c.args.n c.args.k c.requires.0 c.requires.1 (omega arith))

pub overflow_add-rest : goal.overflow_add-rest
overflow_add-rest c = omega (arith, rest_lt c.args.n c.args.k c.requires.0 c.requires.1 (omega arith))

pub overflow_add-kept : goal.overflow_add-kept
overflow_add-kept c = omega (arith, quotient c.args.n c.args.k c.requires.0 c.requires.1 (omega arith))

pub overflow_add-result : goal.overflow_add-result
overflow_add-result c = omega (arith, few c.args.n c.args.k c.requires.0 c.requires.1 (omega arith))

pub overflow_mul-result : goal.overflow_mul-result
overflow_mul-result c = omega (arith, few c.args.n c.args.k c.requires.0 c.requires.1 (omega arith))

pub overflow_add-result-2 : goal.overflow_add-result-2
overflow_add-result-2 c =
    omega (arith, kept_is (goal.at.overflow_add-result-2 c).Joined-unit-rest, kept_most c.args.n c.args.k c.requires.0 c.requires.1 (omega arith), few c.args.n c.args.k c.requires.0 c.requires.1 (omega arith))

pub float_from_bits-result : goal.float_from_bits-result
float_from_bits-result c =
    no_nan_bits _ _ (whole_is c.args.n c.args.k c.requires.0 c.requires.1 (omega arith) c.if-unit-rest.kept (kept_is (goal.at.float_from_bits-result c).Joined-unit-rest)) (int_no_nan c.args.n)

pub returns : goal.returns
returns c =
    whole_is c.args.n c.args.k c.requires.0 c.requires.1 (omega arith) c.if-unit-rest.kept (kept_is (goal.at.returns c).Joined-unit-rest)
