-- `carry::no_zs` meets its contract. Assumes nothing.
use borrow.Author.Rules.{rules}
use Rattle.panel.specs.Widths.{step_range}
use Rattle.carry.proofs.no_zs.Goals as goal

pub returns : goal.returns
unfolding step_range
returns c = search rules
