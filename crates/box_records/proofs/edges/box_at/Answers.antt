-- `box_records::edges::box_at` meets its contract.
-- Assumes nothing.
use borrow.Author.Tests.{eq-eqb, ne_eqb}
use Rattle.panel.specs.Limits.{edge_most}
use Rattle.box_records.specs.Told.{box_in}
use Rattle.box_records.proofs.edges.box_at.Goals as goal

pub returns-then-right-eq0 : goal.returns-then-right-eq0
unfolding box_in
returns-then-right-eq0 c = rw (eq-eqb _ _ c.if-right-eq0.true)

pub returns : goal.returns
unfolding box_in edge_most
returns c = rw (
  ne_eqb _ _ c.if-right-eq0.false,
  c.further-y1.ensures,
  c.further-x1.ensures,
  c.before-y0.ensures,
  c.before-x0.ensures,
)
