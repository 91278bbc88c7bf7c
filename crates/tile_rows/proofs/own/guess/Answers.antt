-- `tile_rows::own::guess` meets its contract: a number and a finite one have no NaN for a sum. Assumes nothing.
use lib.Ieee.{of_bits}
use Rattle.rounded.proofs.Numbers.{add-number}
use Rattle.tile_rows.proofs.own.guess.Goals as goal

pub float_to_bits-result : goal.float_to_bits-result
float_to_bits-result c = add-number _ _ c.requires (unfold of_bits in tt)
