-- `one_row::from_zero` meets its contract: of a zero and +0 the larger is +0, so one comparison tells. Assumes nothing.
use mathlib.Core.Path.{sym}
use Rattle.float32.proofs.Tests.{yes}
use Rattle.float32.proofs.MinMax.{max_first}
use Rattle.rounded.proofs.Cuts.{from_zero}
use Rattle.util.specs.Constants.{zero}
use Rattle.one_row.proofs.from_zero.Goals as goal

pub returns-then-x : goal.returns-then-x
returns-then-x c = sym (max_first c.args.x zero c.if-x.true)

pub returns-else-x : goal.returns-else-x
returns-else-x c = sym (from_zero c.args.x (yes c.well_formed.0.1) c.if-x.false)
