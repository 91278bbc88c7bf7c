-- `sizes::call::sizes` meets its contract: refused by its checks, at a line, or done.
-- Assumes nothing.
use mathlib.Core.Path.{refl, sym, ap, ◌∙◌}
use lib.ListN.{length}
use Rattle.std.proofs.lemmas.Result.{err_from_is_err_and}
use Rattle.panel.specs.Answer.{answer_told}
use Rattle.sizes.specs.RefsMade.{refs_told}
use Rattle.sizes.proofs.CallLaws.{Passed, passed, sizes_refused, sizes_measured}
use Rattle.sizes.proofs.call.sizes.Goals as goal
use Rattle.sizes.proofs.call.sizes.Goals.{In_ok-check_call}

pub returns-in_err-check_call : goal.returns-in_err-check_call
returns-in_err-check_call c =
    let a = c.args in
    let k = c.check_call in
    let r = err_from_is_err_and c.from_residual.result c.from_residual.ensures.1 in
    rw (r.1, r.2) (sizes_refused a.path_nos.now a.coords.now a.paths.now a.cols a.rows (answer_told k.result) k.ensures _ _
    (ap answer_told c.in_err-check_call.was))

-- the checks are passed
fine : (c : In_ok-check_call) → Passed (length c.args.path_nos.now) (length c.args.coords.now) c.args.paths.now c.args.cols c.args.rows
fine c =
    let a = c.args in
    passed (length a.path_nos.now) (length a.coords.now) a.paths.now a.cols a.rows
    (sym c.check_call.ensures ∙ ap answer_told c.in_ok-check_call.was)

pub size_lines-requires : goal.size_lines-requires
size_lines-requires c = (fine (goal.at.size_lines-requires c).In_ok-check_call).whole

pub tiles_of-tiles-requires : goal.tiles_of-tiles-requires
tiles_of-tiles-requires c = (fine (goal.at.tiles_of-tiles-requires c).In_ok-check_call).paths_pass

pub words_of-words-requires : goal.words_of-words-requires
words_of-words-requires c = let f = fine (goal.at.words_of-words-requires c).In_ok-check_call in (f.paths_pass, f.screen)

pub returns-in_err-refs : goal.returns-in_err-refs
returns-in_err-refs c =
    let a = c.args in
    let k = c.check_call in
    let r = err_from_is_err_and c.from_residual-in_err-refs.result c.from_residual-in_err-refs.ensures.1 in
    rw (r.1, r.2) (sizes_measured a.path_nos.now a.coords.now a.paths.now a.cols a.rows (answer_told k.result) k.ensures
    (ap answer_told c.in_ok-check_call.was) _ _ _ (sym (ap refs_told c.in_err-refs.was) ∙ c.size_lines.ensures) refl refl _ refl)

pub returns : goal.returns
returns c =
    let a = c.args in
    let k = c.check_call in
    let t = c.tiles_of-tiles in
    let w = c.words_of-words in
    sizes_measured a.path_nos.now a.coords.now a.paths.now a.cols a.rows (answer_told k.result) k.ensures
    (ap answer_told c.in_ok-check_call.was) _ t.result w.result (sym (ap refs_told c.in_ok-refs.was) ∙ c.size_lines.ensures) t.ensures w.ensures _ refl
