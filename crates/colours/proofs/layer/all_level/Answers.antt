-- `colours::layer::all_level` meets its contract. Assumes nothing.
use mathlib.Core.Path.{refl}
use native.Mathlib.Omega.{arith}
use lib.ListN.{get_or}
use lib.Ieee.{nan}
use Rattle.colours.proofs.LayerLaws.{all_four, four_quarters}
use Rattle.colours.proofs.layer.all_level.Goals as goal

pub four_level-requires : goal.four_level-requires
four_level-requires c = (omega arith, c.requires.1, c.requires.1 _)

pub four_level-requires-2 : goal.four_level-requires-2
four_level-requires-2 c = (omega arith, c.requires.1, c.requires.1 _)

pub four_level-requires-3 : goal.four_level-requires-3
four_level-requires-3 c = (omega arith, c.requires.1, c.requires.1 _)

pub four_level-requires-4 : goal.four_level-requires-4
four_level-requires-4 c = (omega arith, c.requires.1, c.requires.1 _)

pub returns : goal.returns
returns c = λ t.
    let a = c.args in
    four_quarters a.area.now (get_or a.area.now a.i nan) a.i refl
    (all_four _ _ _ _ _ _ _ _ c.four_level.ensures c.four_level-2.ensures c.four_level-3.ensures c.four_level-4.ensures t)
