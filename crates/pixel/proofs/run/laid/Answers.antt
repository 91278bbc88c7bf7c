-- `pixel::run::laid` meets its contract. Assumes nothing.
use Rattle.pixel.specs.Held.{laid_on}
use Rattle.pixel.proofs.run.laid.Goals as goal

pub returns : goal.returns
unfolding laid_on
returns c = rw (c.over.ensures, c.colour.ensures)
