-- `one_segment::add_row` meets its contract: its three arms are those of `step_row`. Assumes nothing.
use Rattle.one_segment.proofs.Arms.{slant, edge, neither}
use Rattle.one_segment.proofs.add_row.Goals as goal

pub returns-then-dy : goal.returns-then-dy
returns-then-dy c =
    let a = c.args in
    slant a.w a.r _ _ c.reach_of.result _ _
    c.if-dy.true c.reach_of.ensures c.add_slant.ensures

pub returns-then-edge : goal.returns-then-edge
returns-then-edge c =
    let a = c.args in
    edge a.w a.r _ _ _ _ c.if-dy.false c.if-edge.true c.add_edge.ensures

pub returns-else-edge : goal.returns-else-edge
returns-else-edge c =
    let a = c.args in
    neither a.w a.r _ _ _ c.if-dy.false c.if-edge.false
