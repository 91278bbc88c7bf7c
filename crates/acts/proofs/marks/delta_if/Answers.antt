-- `acts::marks::delta_if` meets its contract.
-- Assumes nothing.
use Rattle.acts.proofs.marks.delta_if.Goals as goal

pub returns-then-up : goal.returns-then-up
returns-then-up c = rw (c.if-marks.true, c.if-up.true)

pub returns-else-up : goal.returns-else-up
returns-else-up c = rw (c.if-marks.true, c.if-up.false)

pub returns-else-marks : goal.returns-else-marks
returns-else-marks c = rw c.if-marks.false
