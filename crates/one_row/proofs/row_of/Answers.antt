-- `one_row::row_of` meets its contract. Assumes nothing.
use Rattle.one_row.specs.Row.{row_of}
use Rattle.sides.proofs.Small.{small}
use borrow.Author.Rules.{rules}
use Rattle.one_row.proofs.row_of.Goals as goal

pub int_to_float-top : goal.int_to_float-top
int_to_float-top c = small _ (search rules)

pub returns : goal.returns
unfolding row_of
returns c = cc
