-- `panel::checks::end_of` meets its contract: a product of two words leaves room for one more in 64 bits.
-- Assumes nothing.
use Prim.Native.Nat.{◌-◌}
use native.Mathlib.Omega.{arith}
use Rattle.panel.proofs.PathLaws.{wide}
use Rattle.panel.proofs.checks.end_of.Goals as goal

pub overflow_mul-result : goal.overflow_mul-result
overflow_mul-result c =
    let p = c.args.p in
    let w = wide (p.x1 - p.x0) (p.y1 - p.y0) (omega arith) (omega arith) in
    record { fits = omega (arith, w) }

pub overflow_add-result : goal.overflow_add-result
overflow_add-result c =
    let p = c.args.p in
    let w = wide (p.x1 - p.x0) (p.y1 - p.y0) (omega arith) (omega arith) in
    record { fits = omega (arith, w) }
