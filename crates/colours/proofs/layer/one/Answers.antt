-- `colours::layer::one` meets its contract. Assumes nothing.
use Rattle.colours.proofs.LayerLaws.{one_set}
use Rattle.colours.proofs.layer.one.Goals as goal

pub returns : goal.returns
returns g c =
    let a = c.args in
    one_set (g.L.Lay.laid a.layer.now) a.i _ _ c.lay-next.ensures
