-- `panel::limits::coord_most` meets its contract: code and definitions have the same coordinate limit.
-- Assumes nothing.
use borrow.Author.Rules.{rules}
use Rattle.panel.specs.Limits.{coord_most}
use Rattle.panel.proofs.limits.coord_most.Goals as goal

pub returns : goal.returns
unfolding coord_most
returns c = search rules
