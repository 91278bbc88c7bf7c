-- `strides::words::word_tile` meets its contract. Assumes nothing.
use Rattle.std.proofs.Common.{refl}
use Rattle.strides.specs.Words.{word_tile}
use Rattle.strides.proofs.words.word_tile.Goals as goal

pub returns : goal.returns
unfolding word_tile
returns c = refl
