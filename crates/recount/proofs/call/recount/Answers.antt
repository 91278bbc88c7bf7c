-- `recount::call::recount` meets its contract: by what its checks find, and then by `redraw`. Assumes nothing.
use mathlib.Core.Path.{sym, ap}
use Rattle.std.proofs.lemmas.Result.{err_from_is_err_and}
use Rattle.panel.specs.Answer.{answer_told}
use native.Mathlib.Omega.{arith}
use lib.ListN.{length}
use Rattle.recount.proofs.CallLaws.{asked_done, recount_no, recount_goes}
use Rattle.recount.proofs.call.recount.Goals as goal

pub returns-in_err-asked : goal.returns-in_err-asked
returns-in_err-asked c =
    let a = c.args in
    let p = err_from_is_err_and c.from_residual.result c.from_residual.ensures.1 in
    rw (p.1, p.2)
    (recount_no a.path a.line_nos.now a.path_nos.now a.coords.now a.paths.now a.backdrops.now a.counts.now a.refs.now a.kept_backdrops.now a.kept_counts.now
    (answer_told c.asked.result) c.asked.ensures _ _ (ap answer_told c.in_err-asked.was))

pub redraw-requires : goal.redraw-requires
redraw-requires c =
    let a = c.args in
    let k =
    asked_done a.path a.paths.now (length a.line_nos.now) (length a.path_nos.now) (length a.coords.now) (length a.backdrops.now) (length a.counts.now)
    (length a.refs.now) (length a.kept_backdrops.now) (length a.kept_counts.now)
    (sym c.in_ok-asked.ensures) in
    (record { paired = k.paired; passed = k.passed }, k.there, k.lined, omega (arith, k.whole), k.backs, k.counts)

pub returns : goal.returns
returns c =
    let a = c.args in
    recount_goes a.path a.line_nos.now a.path_nos.now a.coords.now a.paths.now a.backdrops.now a.counts.now a.refs.now a.kept_backdrops.now a.kept_counts.now
    (answer_told c.asked.result) c.asked.ensures _ (ap answer_told c.in_ok-asked.was) c.redraw.ensures
