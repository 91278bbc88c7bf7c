-- `tile_check::call::asked` meets its contract: the rows of checks, in order.
-- Assumes nothing.
use mathlib.Core.Path.{sym, ap, ◌∙◌}
use Rattle.std.proofs.lemmas.Result.{err_from_is_err_and}
use Rattle.panel.specs.Verdict.{verdict_told}
use Rattle.panel.specs.Answer.{answer_told}
use Rattle.panel.proofs.ToldLaws.{handed_on}
use Rattle.tile_check.proofs.CallLaws.{asked_lent, asked_path, asked_fine, asked_room}
use Rattle.tile_check.proofs.call.asked.Goals as goal

pub returns-in_err-check_lent : goal.returns-in_err-check_lent
returns-in_err-check_lent c =
    let a = c.args in
    handed_on _ _ c.from_residual.ensures.1
    ∙ asked_lent a.paths.now a.nn a.nc a.nr a.nt a.nb a.ns a.nw (verdict_told c.check_lent.result) c.check_lent.ensures _ (ap verdict_told c.in_err-check_lent.was)

pub returns-in_err-check_paths : goal.returns-in_err-check_paths
returns-in_err-check_paths c =
    let a = c.args in
    let r = err_from_is_err_and c.from_residual-in_err-check_paths.result c.from_residual-in_err-check_paths.ensures.1 in
    let e = ap answer_told c.in_err-check_paths.was in
    rw (r.1, r.2) (sym e ∙ asked_path a.paths.now a.nn a.nc a.nr a.nt a.nb a.ns a.nw (verdict_told c.check_lent.result) c.check_lent.ensures
    (ap verdict_told c.in_ok-check_lent.was) (answer_told c.check_paths.result) c.check_paths.ensures _ _ e)

pub returns-then-has_room : goal.returns-then-has_room
returns-then-has_room c =
    let a = c.args in
    asked_fine a.paths.now a.nn a.nc a.nr a.nt a.nb a.ns a.nw (verdict_told c.check_lent.result) c.check_lent.ensures (ap verdict_told c.in_ok-check_lent.was)
    (answer_told c.check_paths.result) c.check_paths.ensures c.has_room.result c.has_room.ensures (ap answer_told c.in_ok-check_paths.was) c.if-has_room.true

pub returns-else-has_room : goal.returns-else-has_room
returns-else-has_room c =
    let a = c.args in
    rw c.at.ensures (asked_room a.paths.now a.nn a.nc a.nr a.nt a.nb a.ns a.nw (verdict_told c.check_lent.result) c.check_lent.ensures (ap verdict_told c.in_ok-check_lent.was)
    (answer_told c.check_paths.result) c.check_paths.ensures c.has_room.result c.has_room.ensures (ap answer_told c.in_ok-check_paths.was) c.if-has_room.false)
