-- `setup::reached` meets its contract. Assumes nothing.
use Rattle.panel.specs.Limits.{coord_most}
use Rattle.setup.proofs.reached.Goals as goal

pub returns : goal.returns
unfolding coord_most
returns c = rw (c.abs-4.ensures, c.abs-3.ensures, c.abs-2.ensures, c.abs.ensures)
