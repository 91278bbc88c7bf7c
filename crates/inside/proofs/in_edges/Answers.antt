-- `inside::in_edges` meets its contract. Assumes nothing.
use Rattle.inside.specs.Stages.{in_edges_of}
use Rattle.inside.proofs.in_edges.Goals as goal

pub returns : goal.returns
unfolding in_edges_of
returns c =
    rw (c.pick-right.ensures, c.pick-left.ensures)
