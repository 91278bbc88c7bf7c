-- `colours::layer::four` meets its contract. Assumes nothing.
use Prim.Native.Nat.{◌+◌}
use native.Mathlib.Omega.{arith}
use Rattle.colours.proofs.LayerLaws.{four_on}
use Rattle.colours.proofs.layer.four.Goals as goal

pub returns : goal.returns
returns g c =
    let a = c.args in
    four_on (g.L.Lay.laid a.layer.now) a.i (a.i + 1) (a.i + 2) (a.i + 3) (a.i + 4) (a.i + 1) (a.i + 1 + 1) (a.i + 2 + 1) (a.i + 3 + 1) _ _ _ _ _
    (omega arith) (omega arith) (omega arith) (omega arith) (omega arith) (omega arith) (omega arith) (omega arith)
    c.one.ensures c.one-2.ensures c.one-3.ensures c.one-4.ensures
