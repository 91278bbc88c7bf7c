-- `backdrop::backdrop` meets its contract: by what the checks of the paths answer.
-- Assumes nothing.
use borrow.Author.Rules.{rules}
use Rattle.backdrop.specs.Backdrop.{backdrop_of}
use Rattle.backdrop.proofs.backdrop.Goals as goal

pub returns-in_err-check_paths : goal.returns-in_err-check_paths
unfolding backdrop_of
returns-in_err-check_paths c = search rules
