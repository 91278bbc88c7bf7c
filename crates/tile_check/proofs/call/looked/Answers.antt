-- `tile_check::call::looked` meets its contract.
-- Assumes nothing.
use Rattle.std.proofs.Common.{Ok}
use Rattle.std.proofs.lemmas.Result.{err_from_is_err_and}
use Rattle.tile_check.specs.Checked.{checked_told}
use Rattle.tile_check.proofs.CallLaws.{looked_refused, looked_done}
use Rattle.tile_check.proofs.call.looked.Goals as goal

pub returns-in_err-made : goal.returns-in_err-made
returns-in_err-made c =
    let a = c.args in
    let r = err_from_is_err_and c.from_residual.result c.from_residual.ensures.1 in
    rw (r.1, r.2) (looked_refused a.path_nos.now a.coords.now a.paths.now a.refs.now a.counts.now a.backs.now a.stored.now a.room c.own_count.new.work _ _
    (rw c.in_err-made.was at c.own_count.ensures))

pub returns : goal.returns
returns c =
    let a = c.args in
    let m = rw c.in_ok-made.was at c.own_count.ensures in
    looked_done a.path_nos.now a.coords.now a.paths.now a.refs.now a.counts.now a.backs.now a.stored.now a.room c.own_count.new.work _
    (checked_told (Ok c.look.result)) m.0 c.look.ensures
