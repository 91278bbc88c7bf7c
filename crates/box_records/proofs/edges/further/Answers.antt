-- `box_records::edges::further` meets its contract.
-- Assumes nothing.
use native.Mathlib.Omega.{arith}
use Rattle.panel.specs.Limits.{edge_most}
use Rattle.box_records.proofs.edges.further.Goals as goal

pub returns : goal.returns
unfolding edge_most
returns c = omega (arith, c.saturating_add.ensures, c.min.ensures)
