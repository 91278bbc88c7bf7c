-- `panel::checks::box_fits` meets its contract: it holds the edges against the limit's digits.
-- Assumes nothing.
use borrow.Author.Rules.{rules}
use Rattle.panel.specs.Limits.{edge_most}
use Rattle.panel.proofs.checks.box_fits.Goals as goal

pub returns : goal.returns
unfolding edge_most
returns c = search rules
