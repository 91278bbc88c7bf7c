-- `panel::widths::all` meets its contract: code and definitions have the same widths.
-- Assumes nothing.
use borrow.Author.Rules.{rules}
use Rattle.panel.specs.Widths.{step_range}
use Rattle.panel.proofs.widths.all.Goals as goal

pub returns : goal.returns
unfolding step_range
returns c = search rules
