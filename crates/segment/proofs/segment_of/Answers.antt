-- `segment::segment_of` meets its contract: each call's result is what it ensures, from the last call to the first. Assumes nothing.
use Rattle.segment.specs.By.{segment_by}
use Rattle.segment.proofs.segment_of.Goals as goal

pub returns : goal.returns
unfolding segment_by
returns c =
    rw (
      c.turn.ensures,
      c.edge.ensures,
      c.subtract-p1.ensures,
      c.subtract-p0.ensures,
      c.last_end-q1.ensures,
      c.first_end-q0.ensures,
    )
