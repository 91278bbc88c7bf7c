-- `ppm_read::copy` meets its contract. The loop's invariant: what is left to store from here is what
-- there was to store. Assumes nothing.
use native.Mathlib.Omega.{arith}
use lib.ListN.{length-set}
use Rattle.ppm_read.proofs.Parts.{copy_turn_from, copy_done}
use Rattle.ppm_read.proofs.copy.Goals as goal

pub loop-at-preserved : goal.loop-at-preserved
loop-at-preserved c =
    let l = c.loop-at in (
      omega arith,
      simp length-set l.invariant.1,
      copy_turn_from _ _ _ _ _ l.invariant.0 c.loop-at-test.true l.invariant.2,
    )

pub returns : goal.returns
returns c = copy_done _ _ _ _ _ c.loop-at-test.false c.loop-at.invariant.2
