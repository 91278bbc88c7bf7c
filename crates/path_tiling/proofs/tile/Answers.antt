-- `path_tiling::tile` meets its contract: a check that fails, or `tile_checked`. Assumes nothing.
use mathlib.Core.Path.{sym, ap, ◌∙◌}
use Rattle.std.proofs.lemmas.Result.{err_from_is_err_and}
use Rattle.panel.specs.Answer.{answer_told}
use Rattle.path_tiling.proofs.CallLaws.{not_whole_lem, bad_paths}
use Rattle.path_tiling.proofs.tile.Goals as goal

pub returns-then-not-whole : goal.returns-then-not-whole
returns-then-not-whole c = rw c.at.ensures (not_whole_lem _ _ _ _ (sym c.whole.ensures ∙ c.if-not-whole.true))

pub returns-in_err-check_paths : goal.returns-in_err-check_paths
returns-in_err-check_paths c =
    let r = err_from_is_err_and c.from_residual.result c.from_residual.ensures.1 in
    rw (r.1, r.2) (bad_paths _ _ _ _ _ _ (sym c.whole.ensures ∙ c.if-not-whole.false)
    (sym c.check_paths.ensures ∙ ap answer_told c.in_err-check_paths.was))

pub tile_checked-requires : goal.tile_checked-requires
tile_checked-requires c = sym c.check_paths.ensures ∙ ap answer_told c.in_ok-check_paths.was

pub returns : goal.returns
returns c = c.tile_checked.ensures
