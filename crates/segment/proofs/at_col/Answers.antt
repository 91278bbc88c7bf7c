-- `segment::at_col` meets its contract. Assumes nothing.
use Rattle.segment.specs.Clips.{far_of, at_col_of}
use Rattle.segment.proofs.at_col.Goals as goal

pub returns : goal.returns
unfolding at_col_of far_of
returns c = rw (c.new.ensures, c.hold.ensures)
