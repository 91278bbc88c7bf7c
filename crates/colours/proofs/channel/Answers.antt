-- `colours::channel` meets its contract. Assumes nothing.
use mathlib.Core.Path.{ap}
use Prim.Native.Nat.{ℕ, ◌^◌, ◌/◌}
use native.Mathlib.Omega.{arith}
use lib.Dec.{T, le→leb}
use lib.IntN.{pos}
use lib.Bits.{bit_and, and_mask, mask_lt}
use lib.Ieee.{binary32, in_float, mul, of_int, div}
use Rattle.util.specs.Constants.{one, byte_most}
use Rattle.colours.specs.Colour.{channel_of}
use Rattle.colours.proofs.channel.Goals as goal

small : (n : ℕ) → T (in_float binary32 (pos (bit_and n 255)))
unfolding in_float
small n = le→leb (bit_and n 255) (2 ^ 24) (omega (arith, mask_lt n 8))

pub int_to_float-result : goal.int_to_float-result
int_to_float-result c = small (c.args.x / 2 ^ c.args.shift)

pub returns : goal.returns
unfolding channel_of
returns c = ap (λ (n : ℕ). mul binary32 (of_int binary32 (pos n)) (div binary32 one byte_most)) (and_mask (c.args.x / 2 ^ c.args.shift) 8)
