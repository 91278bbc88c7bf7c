-- `segment::at_row` meets its contract. Assumes nothing.
use Rattle.segment.specs.Clips.{far_of, at_row_of}
use Rattle.segment.proofs.at_row.Goals as goal

pub returns : goal.returns
unfolding at_row_of far_of
returns c = rw (c.new.ensures, c.hold.ensures)
