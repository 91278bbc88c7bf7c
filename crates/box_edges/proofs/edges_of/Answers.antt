-- `box_edges::edges_of` meets its contract. Assumes nothing.
use native.Mathlib.Omega.{arith}
use Rattle.exact.proofs.Limits.{far}
use Rattle.walk.proofs.Counts.{in_float_lem}
use Rattle.box_edges.proofs.edges_of.Goals as goal

pub int_to_float-result : goal.int_to_float-result
int_to_float-result c = in_float_lem _ (omega (arith, c.requires.left, c.requires.wide, far.edge))

pub int_to_float-result-2 : goal.int_to_float-result-2
int_to_float-result-2 c = in_float_lem _ (omega (arith, c.requires.top, c.requires.high, far.edge))

pub int_to_float-result-3 : goal.int_to_float-result-3
int_to_float-result-3 c = in_float_lem _ (omega (arith, c.requires.wide, far.edge))

pub int_to_float-result-4 : goal.int_to_float-result-4
int_to_float-result-4 c = in_float_lem _ (omega (arith, c.requires.high, far.edge))
