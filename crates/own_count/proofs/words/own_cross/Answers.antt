-- `own_count::words::own_cross` meets its contract.
-- Assumes nothing.
use native.Mathlib.Omega.{arith}
use mathlib.Core.Path.{refl}
use Rattle.own_count.proofs.Ran.{acts_none}
use Rattle.own_count.proofs.words.own_cross.Goals as goal

pub overflow_add-t : goal.overflow_add-t
overflow_add-t c = omega (arith, rw c.if-marks.true at c.requires.0)

pub own_mark-requires : goal.own_mark-requires
own_mark-requires c = (rw c.if-marks.true at c.requires.0, c.requires.1)

pub returns-then-marks : goal.returns-then-marks
returns-then-marks c = rw c.if-marks.true c.own_mark.ensures

pub returns : goal.returns
returns c = rw c.if-marks.false (acts_none _ _ _ 0 refl)
