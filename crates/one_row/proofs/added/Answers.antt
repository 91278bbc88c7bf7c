-- `one_row::added` meets its contract. Assumes nothing.
use Rattle.one_row.specs.Row.{added_of}
use Rattle.one_row.specs.Column.{added_at}
use Rattle.sides.proofs.Small.{small}
use borrow.Author.Rules.{rules}
use Rattle.one_row.proofs.added.Goals as goal

pub int_to_float-i : goal.int_to_float-i
int_to_float-i c = small _ (search rules)

pub returns : goal.returns
unfolding added_of added_at
returns c = c.added_at.ensures
