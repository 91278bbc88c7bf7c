-- `colours::colour` meets its contract. Assumes nothing.
use Rattle.colours.specs.Colour.{colour_of}
use Rattle.colours.proofs.colour.Goals as goal

pub returns : goal.returns
unfolding colour_of
returns c = cc
