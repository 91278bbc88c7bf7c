-- `narrow::parts` meets its contract. Assumes nothing.
use mathlib.Core.Path.{refl}
use Rattle.lists.specs.Grid.{tab_from}
use Rattle.narrow.specs.Narrow.{part_list}
use Rattle.narrow.proofs.parts.Goals as goal

pub returns : goal.returns
unfolding part_list tab_from
returns c = refl
