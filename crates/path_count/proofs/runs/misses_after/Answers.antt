-- `path_count::runs::misses_after` meets its contract.
-- Assumes nothing.
use native.Mathlib.Omega.{arith}
use Rattle.path_count.proofs.runs.misses_after.Goals as goal

pub returns-then-hit : goal.returns-then-hit
returns-then-hit c = rw c.if-hit.true

pub returns-else-hit : goal.returns-else-hit
returns-else-hit c = rw c.if-hit.false (omega arith)
