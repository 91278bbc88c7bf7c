-- `colours::layer::row` meets its contract. Assumes nothing.
use Prim.Native.Nat.{◌+◌}
use native.Mathlib.Omega.{arith}
use Rattle.sides.specs.Tile.{tile_width}
use Rattle.colours.proofs.LayerLaws.{four_on}
use Rattle.colours.proofs.layer.row.Goals as goal

pub returns : goal.returns
returns g c =
    let a = c.args in
    four_on (g.L.Lay.laid a.layer.now) a.i (a.i + 4) (a.i + 8) (a.i + 12) (a.i + tile_width) (a.i + 4) (a.i + 4 + 4) (a.i + 8 + 4) (a.i + 12 + 4) _ _ _ _ _
    (omega arith) (omega arith) (omega arith) (omega arith) (omega arith) (omega arith) (omega arith) (omega arith)
    c.four.ensures c.four-2.ensures c.four-3.ensures c.four-4.ensures
