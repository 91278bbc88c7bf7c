-- How many lines a curve gives, as the code has it. Assumes nothing.
use mathlib.Core.Path.{◌≡◌, refl}
use Prim.Native.Nat.{ℕ, zero, suc, ◌*◌, ◌^◌, ◌%◌, ◌≤◌}
use native.Mathlib.Omega.{arith}
use Rattle.svg_outline.specs.Outline.{depth_most}

pub shifted : (d : ℕ) → d ≤ depth_most → 1 * 2 ^ d % 18446744073709551616 ≡ 2 ^ d
shifted zero h = refl
shifted (suc zero) h = refl
shifted (suc (suc zero)) h = refl
shifted (suc (suc (suc zero))) h = refl
shifted (suc (suc (suc (suc zero)))) h = refl
shifted (suc (suc (suc (suc (suc zero))))) h = refl
shifted (suc (suc (suc (suc (suc (suc zero)))))) h = refl
shifted (suc (suc (suc (suc (suc (suc (suc k))))))) h = absurd (over k h)
  where
    over : (k : ℕ) → suc (suc (suc (suc (suc (suc (suc k)))))) ≤ depth_most → ⊥
    over k h = omega arith
