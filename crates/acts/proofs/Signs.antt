-- Backdrops: when a mark stays within i32.
-- Assumes nothing.
use mathlib.Core.Path.{◌≡◌, refl, ap, ◌∙◌}
use mathlib.Core.Bool.{Bool, true, not}
use Prim.Native.Nat.{zero, suc, ◌+◌, ◌-◌, ◌<◌, ◌^◌}
use native.Mathlib.Omega.{arith}
use lib.IntN.{ℤ, pos, negsuc, ◌+ℤ◌}
use lib.Signed.{mag}
use mir.Syntax.{w32}
use mir.Val.{SFits, to_z, of_z}
use mir.Facts.{to_z-of_z}
use borrow.Author.Tests.{lt-ltb, le-ltb}
use Rattle.panel.specs.Signed.{in_i32}
use Rattle.panel.proofs.SignLaws.{mag_in}

-- one up stays within i32 but at the largest number
pub up_in : (b : ℤ) → SFits w32 b → (b ≡ pos 2147483647 → ⊥) → in_i32 (b +ℤ pos 1) ≡ true
up_in (pos n) f h =
    let g : n ≡ 2147483647 → ⊥ = λ e. h (ap pos e) in
    mag_in (pos (n + 1)) (omega (arith, f.sfits))
up_in (negsuc zero) f h = refl
up_in (negsuc (suc n)) f h =
    simp (lt-ltb 1 (suc (suc n)) (omega arith)) (mag_in (negsuc (suc (suc n) - 2)) (omega (arith, f.sfits)))

-- one down, but at the least
pub down_in : (b : ℤ) → SFits w32 b → (b ≡ negsuc 2147483647 → ⊥) → in_i32 (b +ℤ negsuc 0) ≡ true
down_in (pos zero) f h = refl
down_in (pos (suc n)) f h =
    simp (le-ltb (suc n) 1 (omega arith)) (mag_in (pos (suc n - 1)) (omega (arith, f.sfits)))
down_in (negsuc n) f h =
    let g : n ≡ 2147483647 → ⊥ = λ e. h (ap negsuc e) in
    mag_in (negsuc (suc (n + 0))) (omega (arith, f.sfits))

-- a signed number that is passed to a call stands as what its bits read back
pub told : (z δ : ℤ) (c : Bool) → mag z < 2 ^ 31 → c ≡ not (in_i32 (to_z w32 (of_z w32 z) +ℤ δ)) → c ≡ not (in_i32 (z +ℤ δ))
told z δ c h e = e ∙ ap (λ (y : ℤ). not (in_i32 (y +ℤ δ))) (to_z-of_z {w = w32} {z = z} (record { sfits = h }))
