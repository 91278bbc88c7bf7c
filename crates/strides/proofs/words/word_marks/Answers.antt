-- `strides::words::word_marks` meets its contract. Assumes nothing.
use Rattle.std.proofs.Common.{refl}
use Rattle.strides.specs.Words.{word_marks}
use Rattle.strides.proofs.words.word_marks.Goals as goal

pub returns : goal.returns
unfolding word_marks
returns c = refl
