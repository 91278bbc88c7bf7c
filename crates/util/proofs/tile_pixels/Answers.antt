-- `util::tile_pixels` meets its contract, by computation. Assumes nothing.
use mathlib.Core.Path.{refl}
use lib.Ieee.{in_float, of_int, of_bits, round}
use Rattle.util.proofs.tile_pixels.Goals as goal

pub int_to_float-result : goal.int_to_float-result
unfolding in_float
int_to_float-result c = tt

pub returns : goal.returns
unfolding of_int of_bits round
returns c = refl
