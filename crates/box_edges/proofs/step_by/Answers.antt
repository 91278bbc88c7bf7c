-- `box_edges::step_by` meets its contract: it is the step with the z that belongs to it. Assumes nothing.
use native.Mathlib.Omega.{arith}
use Rattle.exact.proofs.Limits.{far}
use Rattle.walk.proofs.Counts.{in_float_lem}
use Rattle.box_edges.proofs.step_by.Goals as goal

pub int_to_float-i : goal.int_to_float-i
int_to_float-i c = in_float_lem c.args.i (omega (arith, c.requires.1, far.steps))

pub step_with-requires : goal.step_with-requires
step_with-requires c = let p = c.requires in (p.0, p.1, p.2, p.3, c.z_at.ensures)

pub returns : goal.returns
returns c = c.step_with.ensures
