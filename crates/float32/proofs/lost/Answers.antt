-- `float32::lost` meets its contract: with the zeros above its top bit, n's length makes 32. Assumes nothing.
use mathlib.Core.Path.{◌≡◌, sym}
use Prim.Native.Nat.{ℕ, suc, ◌+◌, ◌-◌, ◌*◌, ◌^◌, ◌≤◌, ◌<◌}
use native.Mathlib.Nat.{le_trans, le_of_eq, lt_of_lt_of_le, le-div_iff_mul-le, pow-suc}
use native.Mathlib.Omega.{arith}
use lib.Count.{count_leading_zeros, leading_length}
use lib.Pow.{pow-add, pow_pos, pow_mono, shr_lt}
use Rattle.float32.specs.Inner.{lost_of}
use Rattle.float32.proofs.Ints.{lost_more, lost_done}
use Rattle.float32.proofs.lost.Goals as goal

-- no more than k digits are lost where 24 + k and the zeros make 32 or more, and over j where one more than 24 + j and the zeros make no more
module _ (n : ℕ) (fit : n < 2 ^ 32) where
  most : (k : ℕ) → 32 ≤ count_leading_zeros 32 n + (24 + k) → lost_of n ≤ k
  most k few =
      let m = leading_length 32 n fit in
      lost_done n k (shr_lt 24 k (lt_of_lt_of_le m.2 (pow_mono (reach (count_leading_zeros 32 n) m.0 k few m.1))))
    where
      reach : (z m k : ℕ) → 32 ≤ z + (24 + k) → z + m ≡ 32 → m ≤ 24 + k
      reach z m k few e = omega arith

  least : (j : ℕ) → count_leading_zeros 32 n + (25 + j) ≤ 32 → j < lost_of n
  least j many =
      let m = leading_length 32 n fit in
      let twice : 2 ^ suc (24 + j) ≤ 2 * n + 1 = le_trans (pow_mono (reach (count_leading_zeros 32 n) m.0 j many m.1)) m.3 in
      let above : 2 ^ (24 + j) ≤ n = omega (arith, twice, pow-suc 2 (24 + j)) in
      lost_more n j ((le-div_iff_mul-le (pow_pos j)).1 (le_trans (le_of_eq (sym (pow-add 2 24 j))) above))
    where
      reach : (z m j : ℕ) → z + (25 + j) ≤ 32 → z + m ≡ 32 → suc (24 + j) ≤ m
      reach z m j many e = omega arith

pub overflow_sub-result : goal.overflow_sub-result
overflow_sub-result c = let few : count_leading_zeros 32 c.args.n < 8 = c.if-zeros-lt8.true in omega (arith, few)

pub returns-then-zeros-lt8 : goal.returns-then-zeros-lt8
returns-then-zeros-lt8 c =
    let n = c.args.n in
    let z = count_leading_zeros 32 n in
    let fit : n < 2 ^ 32 = omega arith in
    let few : z < 8 = c.if-zeros-lt8.true in
    omega (arith, few, most n fit (8 - z) (omega arith), least n fit (7 - z) (omega (arith, few)))

pub returns-else-zeros-lt8 : goal.returns-else-zeros-lt8
returns-else-zeros-lt8 c =
    let n = c.args.n in
    let fit : n < 2 ^ 32 = omega arith in
    let many : 8 ≤ count_leading_zeros 32 n = c.if-zeros-lt8.false in
    omega (arith, most n fit 0 (omega (arith, many)))
