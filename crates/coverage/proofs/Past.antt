-- A number held against one more than another. Assumes nothing.
use Prim.Native.Nat.{ℕ, ◌+◌, ◌≤◌, ◌<◌}
use native.Mathlib.Omega.{arith}

pub over : (a n : ℕ) → n + 1 ≤ a → n < a
over a n h = omega (arith, h)

pub within : (a n : ℕ) → a < n + 1 → a ≤ n
within a n h = omega (arith, h)
