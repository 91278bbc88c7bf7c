-- `narrow::pixel_added` meets its contract. Assumes nothing.
use Rattle.narrow.proofs.pixel_added.Goals as goal

pub returns : goal.returns
returns c = cc
