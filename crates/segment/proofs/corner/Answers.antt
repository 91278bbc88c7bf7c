-- `segment::corner` meets its contract: a box's columns and rows are floats as they stand. Assumes nothing.
use native.Mathlib.Omega.{arith}
use Rattle.panel.proofs.LimitLaws.{small}
use Rattle.segment.specs.Clips.{corner_of}
use Rattle.walk.proofs.Counts.{in_float_lem}
use Rattle.segment.proofs.corner.Goals as goal

pub int_to_float-x : goal.int_to_float-x
int_to_float-x c = in_float_lem _ (omega (arith, small.edge))

pub int_to_float-y : goal.int_to_float-y
int_to_float-y c = in_float_lem _ (omega (arith, small.edge))

pub returns : goal.returns
unfolding corner_of
returns c = cc
