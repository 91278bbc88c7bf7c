-- `coverage::area::size` meets its contract: of a number and 0 less it the larger is its size (`rounded`, Larger). Assumes nothing.
use mathlib.Core.Path.{◌∙◌}
use Rattle.float32.proofs.Tests.{yes}
use Rattle.rounded.proofs.Larger.{larger_is}
use Rattle.coverage.proofs.area.size.Goals as goal

pub returns : goal.returns
returns c = c.pick.ensures ∙ larger_is c.args.v (yes c.well_formed.0.1)
