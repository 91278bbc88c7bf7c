-- `write_lists::check_call` meets its contract. Assumes nothing.
use mathlib.Core.Path.{sym, ◌∙◌}
use borrow.Author.Rules.{rules}
use Rattle.panel.proofs.CheckLaws.{unless_fine}
use Rattle.write_lists.specs.Lists.{call_answer}
use Rattle.write_lists.proofs.check_call.Goals as goal

pub returns-in_err-check_lent : goal.returns-in_err-check_lent
unfolding call_answer
returns-in_err-check_lent c = search rules

pub returns : goal.returns
unfolding call_answer
returns c = c.check_paths.ensures ∙ sym (unless_fine _ 0 _ (sym c.in_ok-check_lent.ensures))
