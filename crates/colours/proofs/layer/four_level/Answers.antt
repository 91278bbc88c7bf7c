-- `colours::layer::four_level` meets its contract. Assumes nothing.
use Rattle.colours.proofs.LayerLaws.{all_four}
use Rattle.colours.proofs.layer.four_level.Goals as goal

pub level-requires : goal.level-requires
level-requires c = (c.requires.1 _, c.requires.2)

pub level-requires-2 : goal.level-requires-2
level-requires-2 c = (c.requires.1 _, c.requires.2)

pub level-requires-3 : goal.level-requires-3
level-requires-3 c = (c.requires.1 _, c.requires.2)

pub level-requires-4 : goal.level-requires-4
level-requires-4 c = (c.requires.1 _, c.requires.2)

pub returns : goal.returns
returns c =
    all_four _ _ _ _ _ _ _ _
    c.level.ensures c.level-2.ensures c.level-3.ensures c.level-4.ensures
