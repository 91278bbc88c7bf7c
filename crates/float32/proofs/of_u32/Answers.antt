-- `float32::of_u32` meets its contract. Assumes nothing.
use lib.Dec.{le→leb}
use lib.Ieee.{in_float}
use Rattle.float32.proofs.of_u32.Goals as goal

pub int_to_float-result : goal.int_to_float-result
unfolding in_float
int_to_float-result c = le→leb c.args.n 16777216 c.if-n-le16777216.true
