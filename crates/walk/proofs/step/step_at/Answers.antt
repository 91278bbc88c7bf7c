-- `walk::step::step_at` meets its contract. Assumes nothing.
use native.Mathlib.Omega.{arith}
use mir.Facts.{to_z-of_z}
use mir.Syntax.{w32}
use Rattle.exact.proofs.Limits.{far}
use Rattle.walk.specs.Step.{step_of}
use Rattle.walk.proofs.Counts.{in_float_lem}
use Rattle.walk.proofs.step.step_at.Goals as goal

pub int_to_float-f : goal.int_to_float-f
int_to_float-f c = in_float_lem c.args.i (omega (arith, c.requires.1, far.steps))

pub returns : goal.returns
unfolding step_of
returns c =
    cc (
      to_z-of_z {w = w32} {z = c.to_i32-x.result} (record { sfits = c.to_i32-x.type_inv }),
      to_z-of_z {w = w32} {z = c.to_i32-y.result} (record { sfits = c.to_i32-y.type_inv }),
    )
