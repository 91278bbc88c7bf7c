-- `path_count::call::count_checked` meets its contract: by the check of the lengths, and then by the batch, whose lines are numbered from 0 on. Assumes nothing.
use mathlib.Core.Path.{refl, sym, ap, ◌∙◌}
use Prim.Native.Nat.{◌/◌}
use native.Mathlib.Omega.{arith}
use lib.ListN.{length}
use Rattle.panel.specs.Verdict.{verdict_told}
use Rattle.panel.specs.Widths.{ref_words}
use Rattle.acts.specs.Acts.{st_of}
use Rattle.path_count.proofs.Batches.{ranged, call_no, call_goes, from_zero}
use Rattle.path_count.proofs.call.count_checked.Goals as goal

pub returns-in-Err : goal.returns-in-Err
returns-in-Err c =
    let a = c.args in
    let v = c.check_lent-v in
    call_no a.running a.end a.path_nos.now a.coords.now a.paths.now a.backdrops.now a.counts.now a.refs.now (verdict_told v.result) v.ensures _ (ap verdict_told c.in-Err.is)

pub count_batch-requires : goal.count_batch-requires
count_batch-requires c =
    let a = c.args in
    let fine = sym c.check_lent-v.ensures ∙ ap verdict_told c.in_default.is in
    let k =
    ranged (length a.path_nos.now) (length a.coords.now) (length a.backdrops.now) (length a.counts.now) (length a.refs.now) a.running.lines a.end fine in
    (record { paired = k.paired; passed = c.requires }, k.forward, k.numbered, k.whole, refl, omega (arith, c.well_formed))

pub returns : goal.returns
returns c =
    let a = c.args in
    let v = c.check_lent-v in
    call_goes a.running a.end a.path_nos.now a.coords.now a.paths.now a.backdrops.now a.counts.now a.refs.now (verdict_told v.result) v.ensures
    (ap verdict_told c.in_default.is) _ refl _ c.requires
    (c.count_batch.ensures ∙ from_zero a.path_nos.now a.coords.now a.paths.now (length a.refs.now / ref_words) a.running.lines a.end
    (st_of a.backdrops.now a.counts.now a.refs.now a.running.refs))
