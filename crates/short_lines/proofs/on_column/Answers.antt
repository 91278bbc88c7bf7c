-- `short_lines::on_column` meets its contract, by what a shift leaves (`Magic.antt` of `float32`). Assumes nothing.
use lib.Ieee.{of_bits}
use Rattle.float32.proofs.Tests.{yes}
use Rattle.float32.proofs.Magic.{whole_near}
use Rattle.short_lines.proofs.on_column.Goals as goal

pub returns : goal.returns
unfolding of_bits
returns c = whole_near c.args.x (yes c.well_formed.0.1) c.requires.below c.requires.above
