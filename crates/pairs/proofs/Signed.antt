-- A signed number's bits, and whether it is 0. Assumes nothing.
use mathlib.Core.Path.{◌≡◌, refl, sym, ◌∙◌}
use Prim.Native.Nat.{suc, ◌-◌, ◌^◌}
use native.Mathlib.Omega.{arith}
use borrow.Author.Tests.{ne_eqb}
use lib.Dec.{eqb}
use lib.IntN.{ℤ, pos, negsuc, nat_abs}
use mir.Syntax.{w32}
use mir.Val.{SFits, of_z}
use Rattle.pairs.specs.Pairs.{bits_of}

pub cast_bits : (z : ℤ) → of_z w32 z ≡ bits_of z
cast_bits (pos n) = refl
cast_bits (negsuc n) = omega arith

pub zero_bits : (z : ℤ) → SFits w32 z → eqb (of_z w32 z) 0 ≡ eqb (nat_abs z) 0
zero_bits (pos n) f = refl
zero_bits (negsuc n) f = ne_eqb (2 ^ 32 - suc n) 0 (λ e. absurd (omega (arith, f.sfits))) ∙ sym (ne_eqb (suc n) 0 (λ e. absurd (omega arith)))
