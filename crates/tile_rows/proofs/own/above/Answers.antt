-- `tile_rows::own::above` meets its contract. Assumes nothing.
use Rattle.tile_rows.specs.Own.{above_of}
use Rattle.sides.proofs.Small.{small}
use borrow.Author.Rules.{rules}
use Rattle.tile_rows.proofs.own.above.Goals as goal

pub int_to_float-y : goal.int_to_float-y
int_to_float-y c = small _ (search rules)

pub returns : goal.returns
unfolding above_of
returns c = cc
