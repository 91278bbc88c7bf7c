-- `walk_steps::line::noted_to` meets its contract.
-- Assumes nothing.
use borrow.Author.Tests.{le-leb, lt-leb}
use Rattle.walk_steps.proofs.line.noted_to.Goals as goal

pub returns-then-imax-imin-le-NOTE_WORDS : goal.returns-then-imax-imin-le-NOTE_WORDS
returns-then-imax-imin-le-NOTE_WORDS c = rw (le-leb _ _ c.if-imax-imin-le-NOTE_WORDS.true)

pub returns-else-imax-imin-le-NOTE_WORDS : goal.returns-else-imax-imin-le-NOTE_WORDS
returns-else-imax-imin-le-NOTE_WORDS c = rw (lt-leb _ _ c.if-imax-imin-le-NOTE_WORDS.false)
