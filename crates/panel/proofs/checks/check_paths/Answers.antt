-- `panel::checks::check_paths` meets its contract: the row of checks, then path after path. Assumes nothing.
use mathlib.Core.Path.{sym, ap, ◌∙◌}
use native.Mathlib.Omega.{arith}
use lib.ListN.{length}
use Rattle.panel.specs.Paths.{paths_answer}
use Rattle.panel.specs.Verdict.{verdict_told}
use Rattle.panel.proofs.CheckLaws.{unless_no, unless_fine}
use Rattle.panel.proofs.ToldLaws.{handed_on}
use Rattle.panel.proofs.PathLaws.{lent_few}
use Rattle.panel.proofs.checks.check_paths.Goals as goal

pub returns-in_err-check_lent : goal.returns-in_err-check_lent
unfolding paths_answer
returns-in_err-check_lent c =
    handed_on _ _ c.from_residual.ensures.1 ∙ sym (unless_no _ _ 0 _ (sym c.check_lent.ensures ∙ ap verdict_told c.in_err-check_lent.was))

pub overflow_cast-paths : goal.overflow_cast-paths
overflow_cast-paths c =
    record {
      fits = omega (
        arith,
        lent_few (length c.args.paths.now) c.args.tiles
            (sym c.check_lent.ensures ∙ ap verdict_told c.in_ok-check_lent.was),
      );
    }

pub returns : goal.returns
unfolding paths_answer
returns c = c.check_each.ensures ∙ sym (unless_fine _ 0 _ (sym c.check_lent.ensures ∙ ap verdict_told c.in_ok-check_lent.was))
