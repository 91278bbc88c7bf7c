-- `one_row::up_to_one` meets its contract: 1 is no zero, so one comparison tells the smaller. Assumes nothing.
use mathlib.Core.Path.{sym}
use Rattle.float32.proofs.Tests.{yes}
use Rattle.float32.proofs.MinMax.{min_first}
use Rattle.rounded.proofs.Cuts.{up_to_one}
use Rattle.util.specs.Constants.{one}
use Rattle.one_row.proofs.up_to_one.Goals as goal

pub returns-then-x : goal.returns-then-x
returns-then-x c = sym (min_first c.args.x one c.if-x.true)

pub returns-else-x : goal.returns-else-x
returns-else-x c = sym (up_to_one c.args.x (yes c.well_formed.0.1) c.if-x.false)
