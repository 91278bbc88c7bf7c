-- `walk_steps::line::check_line` meets its contract.
-- Assumes nothing.
use mathlib.Core.Path.{refl, ◌∙◌}
use Rattle.std.proofs.lemmas.Result.{err_from_is_err_and}
use Rattle.acts.proofs.Laws.{check_goes, check_stops}
use Rattle.walk_steps.proofs.CheckLaws.{not_fine}
use Rattle.walk_steps.proofs.line.check_line.Goals as goal

pub returns-in_err-check_rows : goal.returns-in_err-check_rows
returns-in_err-check_rows c =
    let p = err_from_is_err_and c.from_residual.result c.from_residual.ensures.1 in
    rw (p.1, p.2) (check_stops _ _ _ _ refl _ _ _ _ refl c.in_err-check_rows.ensures _ refl, λ e. absurd (not_fine _ e))

pub check_walk-requires : goal.check_walk-requires
check_walk-requires c = (c.requires.0, c.requires.2, c.requires.3, c.requires.4, c.requires.5)

pub returns : goal.returns
returns c = (
  c.check_walk.ensures.0 ∙ check_goes _ _ _ _ refl _ _ _ _ refl c.in_ok-check_rows.ensures refl,
  c.check_walk.ensures.1,
)
