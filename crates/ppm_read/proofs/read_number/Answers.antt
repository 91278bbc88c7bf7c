-- `ppm_read::read_number` meets its contract. The loop's invariant: reading on from here gives what
-- reading from the start gives. Assumes nothing.
use mathlib.Core.Path.{◌∙◌}
use Rattle.ppm_read.proofs.NumberLaws.{number_turn, number_end}
use Rattle.ppm_read.proofs.read_number.Goals as goal

pub returns-in-Ends : goal.returns-in-Ends
returns-in-Ends c = (
  number_turn c.args.file.now _ _ _ _ _ _ _ c.loop-at-test.true c.loop-at.invariant c.kind_of.ensures c.step.ensures c.in-Ends.is,
  c.loop-at-test.true,
)

pub returns-in-Bad : goal.returns-in-Bad
returns-in-Bad c = (
  number_turn c.args.file.now _ _ _ _ _ _ _ c.loop-at-test.true c.loop-at.invariant c.kind_of.ensures c.step.ensures c.in-Bad.is,
  tt,
)

pub loop-at-preserved : goal.loop-at-preserved
loop-at-preserved c =
    number_turn c.args.file.now _ _ _ _ _ _ _ c.loop-at-test.true c.loop-at.invariant c.kind_of.ensures c.step.ensures c.in-To.is

pub returns : goal.returns
returns c = (number_end c.args.file.now _ _ _ c.loop-at-test.false ∙ c.loop-at.invariant, tt)
