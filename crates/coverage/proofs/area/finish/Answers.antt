-- `coverage::area::finish` meets its contract. Assumes nothing.
use Rattle.coverage.specs.Coverage.{finish_of}
use Rattle.coverage.proofs.area.finish.Goals as goal

pub returns-then-eo : goal.returns-then-eo
unfolding finish_of
returns-then-eo c = rw (c.if-eo.true, c.size.ensures, c.round.ensures)

pub returns-else-eo : goal.returns-else-eo
unfolding finish_of
returns-else-eo c = rw (c.if-eo.false, c.up_to_one.ensures, c.size-else-eo.ensures)
