-- `looks::found_at` meets its contract: the test picks the case. Assumes nothing.
use borrow.Author.Tests.{lt-ltb, le-ltb}
use Rattle.looks.specs.Look.{found_of}
use Rattle.looks.proofs.found_at.Goals as goal

pub returns-then-line-path_nos : goal.returns-then-line-path_nos
unfolding found_of
returns-then-line-path_nos c = rw (lt-ltb _ _ c.if-line-path_nos.true, c.walk_at.ensures)

pub returns-else-line-path_nos : goal.returns-else-line-path_nos
unfolding found_of
returns-else-line-path_nos c = rw (le-ltb _ _ c.if-line-path_nos.false)
