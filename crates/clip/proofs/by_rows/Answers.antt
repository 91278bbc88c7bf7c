-- `clip::by_rows` meets its contract. Assumes nothing.
use Rattle.clip.specs.Clip.{rows_of}
use Rattle.clip.proofs.by_rows.Goals as goal

pub returns : goal.returns
unfolding rows_of
returns c = cc
