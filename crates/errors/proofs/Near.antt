-- Two whole numbers that are near each other: neither is larger than the other by more than k parts in 2 ^ 24. Nothing here is about floats. Assumes nothing.
--     near_trans    nearness adds up, with one part more for the product of the errors
--     near_mul, near_cancel, near_sum, near_as   products, sums, and equal numbers
use mathlib.Core.Path.{◌≡◌, sym, subst}
use Prim.Native.Nat.{ℕ, ◌+◌, ◌*◌, ◌≤◌, ◌<◌}
use native.Mathlib.Nat.{le_trans, le_of_eq, mul_assoc, mul_comm, mul_right_comm, mul-add, add-mul, mul-le-mul_left, mul-le-mul_right, le_of_mul-le-mul_right}
use native.Mathlib.Omega.{arith}
use lib.Dec.{lit<}

abbrev pub Up : ℕ → ℕ → ℕ → Type 0
Up k x y = x * 16777216 ≤ y * (16777216 + k)

pub record Near (k x y : ℕ) : Type 0 where
  pub high : Up k x y
  pub low : Up k y x

-- (1 + l)(1 + k), where the product of the errors is a part at most
grown : (k l : ℕ) → k * l ≤ 16777216 → (16777216 + l) * (16777216 + k) ≤ (16777216 + (k + l + 1)) * 16777216
grown k l h = omega (arith, add-mul 16777216 l (16777216 + k), mul-add l 16777216 k, mul_comm l k)

up_trans : (k l x y z : ℕ) → k * l ≤ 16777216 → Up k x y → Up l y z → Up (k + l + 1) x z
up_trans k l x y z s h g =
    le_of_mul-le-mul_right {k = 16777216}
    (le_trans (mul-le-mul_right 16777216 h)
    (le_trans (le_of_eq (mul_right_comm y (16777216 + k) 16777216))
    (le_trans (mul-le-mul_right (16777216 + k) g)
    (le_trans (le_of_eq (mul_assoc z (16777216 + l) (16777216 + k)))
    (le_trans (mul-le-mul_left z (grown k l s)) (le_of_eq (sym (mul_assoc z (16777216 + (k + l + 1)) 16777216))))))))
    (lit< tt)

up_mul : (k x y z : ℕ) → Up k x y → Up k (x * z) (y * z)
up_mul k x y z h = le_trans (le_of_eq (mul_right_comm x z 16777216)) (le_trans (mul-le-mul_right z h) (le_of_eq (mul_right_comm y (16777216 + k) z)))

up_cancel : (k x y z : ℕ) → 0 < z → Up k (x * z) (y * z) → Up k x y
up_cancel k x y z Z h = le_of_mul-le-mul_right (le_trans (le_of_eq (mul_right_comm x 16777216 z)) (le_trans h (le_of_eq (mul_right_comm y z (16777216 + k))))) Z

up_sum : (k x y u v : ℕ) → Up k x y → Up k u v → Up k (x + u) (y + v)
up_sum k x y u v h g = omega (arith, add-mul y v (16777216 + k))

pub near_trans : (k l x y z : ℕ) → k * l ≤ 16777216 → Near k x y → Near l y z → Near (k + l + 1) x z
near_trans k l x y z s h g =
    record {
      high = up_trans k l x y z s h.high g.high;
      low = subst (λ (j : ℕ). Up (j + 1) z x) (native.Mathlib.Nat.add_comm l k) (up_trans l k z y x (le_trans (le_of_eq (mul_comm l k)) s) g.low h.low);
    }

pub near_turned : (k x y : ℕ) → Near k x y → Near k y x
near_turned k x y h = record { high = h.low; low = h.high }

pub near_mul : (k x y z : ℕ) → Near k x y → Near k (x * z) (y * z)
near_mul k x y z h = record { high = up_mul k x y z h.high; low = up_mul k y x z h.low }

pub near_cancel : (k x y z : ℕ) → 0 < z → Near k (x * z) (y * z) → Near k x y
near_cancel k x y z Z h = record { high = up_cancel k x y z Z h.high; low = up_cancel k y x z Z h.low }

pub near_sum : (k x y u v : ℕ) → Near k x y → Near k u v → Near k (x + u) (y + v)
near_sum k x y u v h g = record { high = up_sum k x y u v h.high g.high; low = up_sum k y x v u h.low g.low }

pub near_as : (k x y x' y' : ℕ) → x ≡ x' → y ≡ y' → Near k x y → Near k x' y'
near_as k x y x' y' p q h = subst (λ (u : ℕ). Near k u y') p (subst (λ (u : ℕ). Near k x u) q h)
