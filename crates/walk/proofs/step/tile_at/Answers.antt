-- `walk::step::tile_at` meets its contract. Assumes nothing.
use native.Mathlib.Omega.{arith}
use Rattle.walk.proofs.Boxes.{tile_below}
use Rattle.walk.proofs.step.tile_at.Goals as goal

pub overflow_mul-result : goal.overflow_mul-result
overflow_mul-result c =
    omega (arith, c.requires.0.last, (tile_below c.args.b c.args.x c.args.y c.requires.1).1)

pub overflow_add-result : goal.overflow_add-result
overflow_add-result c =
    omega (arith, c.requires.0.last, (tile_below c.args.b c.args.x c.args.y c.requires.1).1)

pub overflow_add-result-2 : goal.overflow_add-result-2
overflow_add-result-2 c =
    omega (arith, c.requires.0.last, (tile_below c.args.b c.args.x c.args.y c.requires.1).1)
