-- `whole::floor_bits` meets its contract: a shift to where the floats are whole, and one less where that went up (`Steps.antt`). Assumes nothing.
use mathlib.Core.Path.{◌≡◌}
use mathlib.Core.Logic.{inl, inr}
use Prim.Native.Nat.{◌-◌, ◌≤◌}
use native.Mathlib.Omega.{arith}
use lib.Ieee.{binary32, add, of_bits, to_bits}
use Rattle.exact.specs.Whole.{floor_z}
use Rattle.float32.proofs.Tests.{yes}
use Rattle.float32.proofs.Order.{not_lt_of_le}
use Rattle.float32.proofs.Magic.{magic}
use Rattle.whole.specs.Bits.{bits_of}
use Rattle.whole.proofs.Shifted.{shifted}
use Rattle.whole.proofs.Steps.{floor_shifted, not_up_to}
use Rattle.whole.proofs.floor_bits.Goals as goal
use Rattle.whole.proofs.floor_bits.Goals.{Joined-t-x, then-t-x, else-t-x}

stepped : (c : Joined-t-x)
    → (c.if-t-x.step ≤ to_bits binary32 (add binary32 c.args.x magic)) × (to_bits binary32 (add binary32 c.args.x magic) - c.if-t-x.step ≡ bits_of (floor_z c.args.x))
unfolding of_bits
stepped c =
    floor_shifted c.args.x c.requires c.if-t-x.step
    (elim c.if-t-x.branch [ then-t-x w ↦ inr (not_lt_of_le _ _ w.if-t-x.true, w.step-is) | else-t-x w ↦ inl (not_up_to c.args.x (yes c.well_formed.0.1) c.requires w.if-t-x.false, w.step-is) ])

pub float_to_bits-result : goal.float_to_bits-result
unfolding of_bits
float_to_bits-result c = (shifted c.args.x c.requires.below c.requires.above).real

pub overflow_sub-result : goal.overflow_sub-result
unfolding of_bits
overflow_sub-result c = omega (arith, (stepped (goal.at.overflow_sub-result c).Joined-t-x).0)

pub returns : goal.returns
unfolding of_bits
returns c = (stepped (goal.at.returns c).Joined-t-x).1
