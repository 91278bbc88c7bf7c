-- -1 - m of a number below 2 ^ 31 from 0 up. Assumes nothing.
use mathlib.Core.Path.{◌≡◌, refl, ap, ◌∙◌}
use Prim.Native.Nat.{ℕ, zero, suc, ◌<◌}
use native.Mathlib.Nat.{zero-add}
use lib.IntN.{ℤ, pos, negsuc, ◌-ℤ◌}
use mir.Syntax.{w32}
use mir.Val.{SFits, to_z}
use mir.Facts.{to_z_pos}

pub down_from : (m : ℕ) → negsuc 0 -ℤ pos m ≡ negsuc m
down_from zero = refl
down_from (suc m) = ap (λ (n : ℕ). negsuc (suc n)) (zero-add m)

module _ (m : ℕ) (h : m < 2147483648) where
  pub down_is : negsuc 0 -ℤ to_z w32 m ≡ negsuc m
  down_is = ap (λ (y : ℤ). negsuc 0 -ℤ y) (to_z_pos w32 h) ∙ down_from m

  pub down_fits : SFits w32 (negsuc 0 -ℤ to_z w32 m)
  down_fits = rw down_is (record { sfits = h })
