-- `sizes::lines::size_line` meets its contract: refused, skipped or walked.
-- Assumes nothing.
use mathlib.Core.Path.{sym, ap, ◌∙◌}
use Rattle.std.proofs.Common.{Ok}
use Rattle.std.proofs.lemmas.Result.{err_from_is_err_and}
use Rattle.walk.specs.Walked.{walked_told}
use Rattle.sizes.proofs.RefLaws.{line_walked, line_skipped}
use Rattle.sizes.proofs.lines.size_line.Goals as goal

pub returns-in_err-walk_at : goal.returns-in_err-walk_at
returns-in_err-walk_at c =
    let a = c.args in
    let r = err_from_is_err_and c.from_residual.result c.from_residual.ensures.1 in
    rw (r.1, r.2) (line_walked a.path_nos.now a.coords.now a.paths.now a.line a.made _ c.requires.2
    (sym c.walk_at.ensures ∙ ap walked_told c.in_err-walk_at.was))

pub returns-in-None : goal.returns-in-None
returns-in-None c =
    let a = c.args in
    line_skipped a.path_nos.now a.coords.now a.paths.now a.line a.made c.requires.2
    (sym c.walk_at.ensures ∙ ap walked_told (c.in_ok-walk_at.was ∙ ap Ok c.in-None.is))

pub returns-in-Some : goal.returns-in-Some
returns-in-Some c =
    let a = c.args in
    c.size_walk.ensures
    ∙ line_walked a.path_nos.now a.coords.now a.paths.now a.line a.made _ c.requires.2
    (sym c.walk_at.ensures ∙ ap walked_told (c.in_ok-walk_at.was ∙ ap Ok c.in-Some.is))
