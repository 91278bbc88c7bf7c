-- `colours::layer::over_any` meets its contract. Assumes nothing.
use borrow.Author.Rules.{rules}
use Rattle.colours.proofs.layer.over_any.Goals as goal

pub over_level-requires : goal.over_level-requires
over_level-requires c = (search rules, search rules, search rules, c.all_level.ensures c.if-all_level.true)
