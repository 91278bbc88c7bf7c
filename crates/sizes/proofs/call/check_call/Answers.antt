-- `sizes::call::check_call` meets its contract: the row of checks, then the paths'.
-- Assumes nothing.
use mathlib.Core.Path.{sym, ap, ◌∙◌}
use Rattle.panel.specs.Verdict.{verdict_told}
use Rattle.panel.proofs.CheckLaws.{unless_no, unless_fine}
use Rattle.panel.proofs.ToldLaws.{handed_on}
use Rattle.sizes.specs.Sizes.{call_answer}
use Rattle.sizes.proofs.call.check_call.Goals as goal

pub returns-in_err-check_lent : goal.returns-in_err-check_lent
unfolding call_answer
returns-in_err-check_lent c =
    handed_on _ _ c.from_residual.ensures.1 ∙ sym (unless_no _ _ 0 _ (sym c.check_lent.ensures ∙ ap verdict_told c.in_err-check_lent.was))

pub returns : goal.returns
unfolding call_answer
returns c = c.check_paths.ensures ∙ sym (unless_fine _ 0 _ (sym c.check_lent.ensures ∙ ap verdict_told c.in_ok-check_lent.was))
