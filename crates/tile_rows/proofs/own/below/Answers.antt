-- `tile_rows::own::below` meets its contract. Assumes nothing.
use Rattle.tile_rows.specs.Own.{below_of}
use Rattle.sides.proofs.Small.{small}
use borrow.Author.Rules.{rules}
use Rattle.tile_rows.proofs.own.below.Goals as goal

pub int_to_float-y : goal.int_to_float-y
int_to_float-y c = small _ (search rules)

pub returns : goal.returns
unfolding below_of
returns c = cc
