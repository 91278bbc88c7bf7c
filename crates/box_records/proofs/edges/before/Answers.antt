-- `box_records::edges::before` meets its contract.
-- Assumes nothing.
use native.Mathlib.Omega.{arith}
use Rattle.panel.specs.Limits.{edge_most}
use Rattle.box_records.proofs.edges.before.Goals as goal

pub returns : goal.returns
unfolding edge_most
returns c = omega (arith, c.saturating_sub.ensures, c.saturating_sub-2.ensures)
