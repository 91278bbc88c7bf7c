-- `strides::near` meets its contract. Assumes nothing.
use Rattle.std.proofs.Common.{refl}
use lib.Ieee.{of_bits, neg}
use Rattle.strides.proofs.near.Goals as goal

pub returns : goal.returns
unfolding of_bits neg
returns c = refl
