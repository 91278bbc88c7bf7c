-- `pairs::tile_in` meets its contract. Assumes nothing.
use native.Mathlib.Omega.{arith}
use Rattle.panel.proofs.LimitLaws.{small}
use Rattle.pairs.proofs.PairLaws.{tile_parts}
use Rattle.pairs.proofs.tile_in.Goals as goal

pub overflow_add-result-2 : goal.overflow_add-result-2
overflow_add-result-2 c =
    let a = c.args in
    let z = tile_parts a.p a.x a.y c.requires.0 c.requires.1 in
    record { fits = omega (arith, z.tile, small.tiles) }
