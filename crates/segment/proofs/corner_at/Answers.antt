-- `segment::corner_at` meets its contract: a step number is a float as it stands. Assumes nothing.
use native.Mathlib.Omega.{arith}
use Rattle.panel.proofs.LimitLaws.{packs}
use Rattle.segment.specs.By.{corner_at}
use Rattle.walk.proofs.Counts.{in_float_lem}
use Rattle.segment.proofs.corner_at.Goals as goal

pub int_to_float-y : goal.int_to_float-y
int_to_float-y c = in_float_lem _ (omega (arith, packs.float))

pub returns : goal.returns
unfolding corner_at
returns c = c.new.ensures
