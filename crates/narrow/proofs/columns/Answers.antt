-- `narrow::columns` meets its contract: the numbers from 0 on are their floats. Assumes nothing.
use mathlib.Core.Path.{refl}
use lib.Ieee.{of_bits, of_int, round}
use Rattle.lists.specs.Grid.{tab_from}
use Rattle.narrow.specs.Narrow.{column_list}
use Rattle.narrow.proofs.columns.Goals as goal

pub returns : goal.returns
unfolding column_list tab_from of_int of_bits round
returns c = refl
