-- `strides::words::word_of` meets its contract. Assumes nothing.
use Rattle.std.proofs.Common.{sym, add-zero}
use Rattle.strides.specs.Words.{word_of}
use Rattle.strides.proofs.words.word_of.Goals as goal

pub returns-then-marks : goal.returns-then-marks
unfolding word_of
returns-then-marks c = rw c.if-marks.true

pub returns-else-marks : goal.returns-else-marks
unfolding word_of
returns-else-marks c = rw c.if-marks.false (sym (add-zero _))
