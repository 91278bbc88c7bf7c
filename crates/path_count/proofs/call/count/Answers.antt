-- `path_count::call::count` meets its contract: by its checks, and then by `count_checked`.
-- Assumes nothing.
use mathlib.Core.Path.{sym, ap, ◌∙◌}
use Rattle.panel.specs.Answer.{answer_told}
use Rattle.panel.specs.Verdict.{verdict_told}
use Rattle.path_count.proofs.Batches.{call_no, call_path}
use Rattle.path_count.proofs.call.count.Goals as goal

pub returns-in-Err : goal.returns-in-Err
returns-in-Err c =
    let a = c.args in
    call_no a.running a.end a.path_nos.now a.coords.now a.paths.now a.backdrops.now a.counts.now a.refs.now
    (verdict_told c.check_lent-v.result) c.check_lent-v.ensures _ (ap verdict_told c.in-Err.is)

pub returns-in-Err-a : goal.returns-in-Err-a
returns-in-Err-a c =
    let a = c.args in
    call_path a.running a.end a.path_nos.now a.coords.now a.paths.now a.backdrops.now a.counts.now a.refs.now
    (verdict_told c.check_lent-v.result) c.check_lent-v.ensures (ap verdict_told c.in_default.is)
    (answer_told c.check_paths-a.result) c.check_paths-a.ensures _ _ (ap answer_told c.in-Err-a.is)

pub count_checked-requires : goal.count_checked-requires
count_checked-requires c = sym c.check_paths-a.ensures ∙ ap answer_told c.in_default-a.is

pub returns : goal.returns
returns c = c.count_checked.ensures
