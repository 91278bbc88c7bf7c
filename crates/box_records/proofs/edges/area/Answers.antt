-- `box_records::edges::area` meets its contract.
-- Assumes nothing.
use mathlib.Core.Path.{ap₂}
use Prim.Native.Nat.{ℕ, ◌*◌}
use native.Mathlib.Omega.{arith}
use Rattle.panel.proofs.PathLaws.{wide}
use Rattle.box_records.proofs.edges.area.Goals as goal

pub overflow_mul-result : goal.overflow_mul-result
overflow_mul-result c = omega (arith, wide c.saturating_sub.result c.saturating_sub-2.result (omega arith) (omega arith))

pub returns : goal.returns
returns c = ap₂ (λ (a b : ℕ). a * b) c.saturating_sub.ensures c.saturating_sub-2.ensures
