-- `colours::pack` meets its contract. Assumes nothing.
use Rattle.colours.specs.Colour.{pack_of}
use Rattle.colours.proofs.pack.Goals as goal

pub returns : goal.returns
unfolding pack_of
returns c = rw (c.byte.ensures.0, c.byte-2.ensures.0, c.byte-3.ensures.0, c.byte-4.ensures.0)
