-- `acts::marks::next_if` meets its contract.
-- Assumes nothing.
use Rattle.acts.proofs.marks.next_if.Goals as goal

pub returns-then-marks : goal.returns-then-marks
returns-then-marks c = rw c.if-marks.true
