-- `whole::whole_int` meets its contract: the bits of a whole number shifted to where the floats are whole (`Steps.antt`). Assumes nothing.
use mathlib.Core.Path.{◌≡◌, sym, ap, ◌∙◌, subst}
use Prim.Native.Nat.{ℕ, ◌<◌, ◌^◌}
use native.Mathlib.Omega.{arith}
use lib.IntN.{ℤ, pos, neg_ℤ, ◌-ℤ◌}
use lib.Ieee.{Float, binary32, add, of_bits, to_bits, to_signed}
use lib.Ieee.Casts.{to_signed_in}
use mir.Syntax.{w32}
use mir.Val.{SFits, to_z, of_z}
use mir.Facts.{to_z-of_z, to_z_pos}
use Rattle.float32.specs.Inner.{Within}
use Rattle.float32.proofs.Magic.{magic}
use Rattle.exact.specs.Whole.{IsWhole}
use Rattle.exact.proofs.Signs.{sum_parts, neg_plus, neg_minus, same_parts}
use Rattle.whole.specs.Bits.{zero_bits}
use Rattle.whole.proofs.Shifted.{shifted}
use Rattle.whole.proofs.Steps.{whole_shifted}
use Rattle.whole.proofs.whole_int.Goals as goal

module _ (x : Float) (h : Within x) where
  abbrev bits : ℕ
  bits = to_bits binary32 (add binary32 x magic)

  half : bits < 2 ^ 31
  half = let f = shifted x h.below h.above in omega (arith, f.bits, f.most)

  fit : SFits w32 (pos bits)
  fit = record { sfits = half }

  module _ (w : IsWhole x (to_signed 31 x)) where
    taken : to_z w32 bits -ℤ pos zero_bits ≡ to_signed 31 x
    taken =
        let n = to_signed 31 x in
        ap (λ (z : ℤ). z -ℤ pos zero_bits) (to_z_pos w32 half)
        ∙ same_parts (pos bits -ℤ pos zero_bits) n (omega (arith, whole_shifted x n h w, sum_parts (pos bits) (neg_ℤ (pos zero_bits)), neg_plus (pos zero_bits), neg_minus (pos zero_bits)))

    room : SFits w32 (to_z w32 bits -ℤ pos zero_bits)
    room = subst (SFits w32) (sym taken) (record { sfits = to_signed_in 31 x })

    answer : to_z w32 (of_z w32 (to_z w32 bits -ℤ pos zero_bits)) ≡ to_signed 31 x
    answer = to_z-of_z {w = w32} {z = to_z w32 bits -ℤ pos zero_bits} room ∙ taken

pub float_to_bits-t : goal.float_to_bits-t
unfolding of_bits
float_to_bits-t c = (shifted c.args.x c.requires.0.below c.requires.0.above).real

pub overflow_cast-result : goal.overflow_cast-result
unfolding of_bits
overflow_cast-result c = fit c.args.x c.requires.0

pub overflow_sub-result : goal.overflow_sub-result
unfolding of_bits
overflow_sub-result c = room c.args.x c.requires.0 c.requires.1

pub returns : goal.returns
unfolding of_bits
returns c = answer c.args.x c.requires.0 c.requires.1
