-- `segment::edge` meets its contract: at each return the tests that led there pick the case of `edge_of`. Assumes nothing.
use mathlib.Core.Path.{◌∙◌}
use Rattle.segment.specs.Clips.{edge_of}
use Rattle.segment.proofs.edge.Goals as goal

pub returns-then-y0 : goal.returns-then-y0
unfolding edge_of
returns-then-y0 c = c.make.ensures ∙ simp (c.if-y0.true, c.if-x1.true, c.if-x0.true)

pub returns-else-y0 : goal.returns-else-y0
unfolding edge_of
returns-else-y0 c = c.make-else-y0.ensures ∙ simp (c.if-y0.false, c.if-x1.true, c.if-x0.true)

pub returns-then-y0-2 : goal.returns-then-y0-2
unfolding edge_of
returns-then-y0-2 c = c.make-then-y0-2.ensures ∙ simp (c.if-y0-2.true, c.if-x1.false, c.if-x0.true)

pub returns-else-y0-2 : goal.returns-else-y0-2
unfolding edge_of
returns-else-y0-2 c = c.make-else-y0-2.ensures ∙ simp (c.if-y0-2.false, c.if-x1.false, c.if-x0.true)

pub returns-then-y1 : goal.returns-then-y1
unfolding edge_of
returns-then-y1 c = c.make-then-y1.ensures ∙ simp (c.if-y1.true, c.if-x1-2.true, c.if-x0.false)

pub returns-else-y1 : goal.returns-else-y1
unfolding edge_of
returns-else-y1 c = c.make-else-y1.ensures ∙ simp (c.if-y1.false, c.if-x1-2.true, c.if-x0.false)

pub returns-else-x1-2 : goal.returns-else-x1-2
unfolding edge_of
returns-else-x1-2 c = c.make-else-x1-2.ensures ∙ simp (c.if-x1-2.false, c.if-x0.false)
