-- `carry::zs_at` meets its contract: what is carried is the step's own, and what isn't is worked out. Assumes nothing.
use native.Mathlib.Omega.{arith}
use Rattle.exact.proofs.Limits.{far}
use Rattle.walk.proofs.Counts.{in_float_lem}
use Rattle.carry.proofs.CarryLaws.{carried_on, worked_out}
use Rattle.carry.proofs.zs_at.Goals as goal

pub int_to_float-f : goal.int_to_float-f
int_to_float-f c = in_float_lem c.args.i (omega (arith, c.requires.0, far.steps))

pub overflow_add-last : goal.overflow_add-last
overflow_add-last c = omega (arith, c.requires.1.most, far.steps)

pub returns-then-last-i : goal.returns-then-last-i
returns-then-last-i c =
    carried_on c.args.p c.args.last c.requires.1 c.args.i c.requires.0 c.if-last-i.true _ c.z_at-after.ensures

pub returns : goal.returns
returns c =
    worked_out c.args.p c.args.i _ _ _ c.z_at.ensures c.z_at-2.ensures c.z_at-after.ensures
