-- Lines in order: none are, and one more. Assumes nothing.
use mathlib.Core.Path.{◌≡◌}
use mathlib.Core.List.{List}
use Prim.Native.Nat.{ℕ, ◌+◌}
use native.Mathlib.Decide.{ℕ_discrete}
use native.Mathlib.Omega.{arith}
use lib.ListN.{get_or}
use Rattle.stretches.specs.Stretches.{InOrder}

pub in_order_none : (p : ℕ) (line_nos nos : List ℕ) (k : ℕ) → InOrder p line_nos nos k 0
in_order_none p line_nos nos k j h = absurd (omega (arith, h))

pub in_order_more : (p : ℕ) (line_nos nos : List ℕ) (k n : ℕ) → InOrder p line_nos nos k n → get_or nos (k + n) 0 ≡ p → get_or line_nos (k + n) 0 ≡ get_or line_nos k 0 + n
    → InOrder p line_nos nos k (n + 1)
in_order_more p line_nos nos k n o e f j h = go (ℕ_discrete j n)
  where
    go : Dec (j ≡ n) → (get_or nos (k + j) 0 ≡ p) × (get_or line_nos (k + j) 0 ≡ get_or line_nos k 0 + j)
    go (yes q) = rw q (e, f)
    go (no q) = o j (omega (arith, h, q))
