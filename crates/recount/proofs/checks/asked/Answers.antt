-- `recount::checks::asked` meets its contract: by what each of its checks finds.
-- Assumes nothing.
use mathlib.Core.Path.{sym, ap, ◌∙◌}
use Rattle.std.proofs.lemmas.Result.{err_from_is_err_and}
use Rattle.panel.specs.Answer.{answer_told}
use Rattle.panel.specs.Verdict.{verdict_told}
use Rattle.recount.proofs.CallLaws.{asked_lent, asked_path, asked_range, asked_fine}
use Rattle.recount.proofs.checks.asked.Goals as goal

pub returns-in_err-check_lent : goal.returns-in_err-check_lent
returns-in_err-check_lent c =
    let a = c.args in
    let p = err_from_is_err_and c.from_residual.result c.from_residual.ensures.1 in
    rw (p.1, p.2)
    (asked_lent a.path a.paths.now a.nl a.nn a.nc a.nb a.nt a.nr a.kb a.kc
    (verdict_told c.check_lent.result) c.check_lent.ensures _ (ap verdict_told c.in_err-check_lent.was))

pub returns-in_err-check_paths : goal.returns-in_err-check_paths
returns-in_err-check_paths c =
    let a = c.args in
    let r = c.from_residual-in_err-check_paths in
    let p = err_from_is_err_and r.result r.ensures.1 in
    rw (p.1, p.2)
    (sym (ap answer_told c.in_err-check_paths.was)
    ∙ asked_path a.path a.paths.now a.nl a.nn a.nc a.nb a.nt a.nr a.kb a.kc
    (verdict_told c.check_lent.result) c.check_lent.ensures (ap verdict_told c.in_ok-check_lent.was)
    (answer_told c.check_paths.result) c.check_paths.ensures _ _ (ap answer_told c.in_err-check_paths.was))

pub check_range-requires : goal.check_range-requires
check_range-requires c = sym c.in_ok-check_paths.ensures

pub returns-in_err-check_range : goal.returns-in_err-check_range
returns-in_err-check_range c =
    let a = c.args in
    let r = c.from_residual-in_err-check_range in
    let p = err_from_is_err_and r.result r.ensures.1 in
    rw (p.1, p.2)
    (asked_range a.path a.paths.now a.nl a.nn a.nc a.nb a.nt a.nr a.kb a.kc
    (verdict_told c.check_lent.result) c.check_lent.ensures (ap verdict_told c.in_ok-check_lent.was)
    (answer_told c.check_paths.result) c.check_paths.ensures (ap answer_told c.in_ok-check_paths.was)
    (verdict_told c.check_range.result) c.check_range.ensures _ (ap verdict_told c.in_err-check_range.was))

pub returns : goal.returns
returns c =
    let a = c.args in
    asked_fine a.path a.paths.now a.nl a.nn a.nc a.nb a.nt a.nr a.kb a.kc
    (verdict_told c.check_lent.result) c.check_lent.ensures (ap verdict_told c.in_ok-check_lent.was)
    (answer_told c.check_paths.result) c.check_paths.ensures (ap answer_told c.in_ok-check_paths.was)
    (verdict_told c.check_range.result) c.check_range.ensures (ap verdict_told c.in_ok-check_range.was)
