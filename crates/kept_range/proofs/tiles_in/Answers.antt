-- `kept_range::tiles_in` meets its contract: a product of two words fits 64 bits. Assumes nothing.
use Prim.Native.Nat.{◌-◌}
use native.Mathlib.Omega.{arith}
use Rattle.panel.proofs.PathLaws.{wide}
use Rattle.kept_range.proofs.tiles_in.Goals as goal

pub overflow_mul-result : goal.overflow_mul-result
overflow_mul-result c =
    let p = c.args.p in
    record { fits = omega (arith, wide (p.x1 - p.x0) (p.y1 - p.y0) (omega arith) (omega arith)) }
