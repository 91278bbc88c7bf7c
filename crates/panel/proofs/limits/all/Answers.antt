-- `panel::limits::all` meets its contract: code and definitions have the same limits.
-- Assumes nothing.
use borrow.Author.Rules.{rules}
use Rattle.panel.specs.Limits.{edge_most, most_steps}
use Rattle.panel.proofs.limits.all.Goals as goal

pub returns : goal.returns
unfolding edge_most most_steps
returns c = search rules
