-- `panel::segments::straight` meets its contract. Assumes nothing.
use Rattle.panel.specs.Segments.{straight_of}
use Rattle.panel.proofs.segments.straight.Goals as goal

pub returns : goal.returns
unfolding straight_of
returns c = rw (c.is_finite.ensures, c.held-2.ensures, c.held.ensures)
