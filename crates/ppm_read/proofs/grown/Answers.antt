-- `ppm_read::grown` meets its contract: a number over the limit stays over it. Assumes nothing.
use Rattle.ppm_read.proofs.Held.{held_more}
use Rattle.ppm_read.proofs.grown.Goals as goal

pub returns-then-n-gt-SIDE_MOST : goal.returns-then-n-gt-SIDE_MOST
returns-then-n-gt-SIDE_MOST c = held_more c.args.n c.args.d c.if-n-gt-SIDE_MOST.true
