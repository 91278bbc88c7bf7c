-- `panel::checks::check_lent` meets its contract: a return for each check of the row.
-- Assumes nothing.
use borrow.Author.Tests.{eq-eqb, ne_eqb, le-leb, lt-leb}
use Rattle.panel.proofs.checks.check_lent.Goals as goal

pub returns-then-words-ne0 : goal.returns-then-words-ne0
returns-then-words-ne0 c = rw (ne_eqb _ _ c.if-words-ne0.true)

pub returns-then-words : goal.returns-then-words
returns-then-words c = rw (eq-eqb _ _ c.if-words-ne0.false, lt-leb _ _ c.if-words.true)

pub returns-then-tiles : goal.returns-then-tiles
returns-then-tiles c = rw (eq-eqb _ _ c.if-words-ne0.false, le-leb _ _ c.if-words.false, lt-leb _ _ c.if-tiles.true)

pub returns : goal.returns
returns c = rw (eq-eqb _ _ c.if-words-ne0.false, le-leb _ _ c.if-words.false, le-leb _ _ c.if-tiles.false)
