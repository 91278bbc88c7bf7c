-- `outlines::outlines` meets its contract. Assumes nothing.
use mathlib.Core.Path.{◌≡◌, sym, ap, ◌∙◌}
use native.Mathlib.Omega.{arith}
use Prim.Native.Nat.{◌*◌, ◌≤◌}
use lib.ListN.{length}
use lib.Seq.{length-take-le}
use Rattle.panel.specs.Verdict.{verdict_told}
use Rattle.panel.proofs.ToldLaws.{handed_on}
use Rattle.outlines.specs.Call.{room_words, first_bad}
use Rattle.outlines.proofs.CallLaws.{bad_most, has_room, ready, cleared_is, met_refused, met_bad, met_open}
use Rattle.outlines.proofs.outlines.Goals as goal

pub returns-in_err-check_lent : goal.returns-in_err-check_lent
returns-in_err-check_lent c =
    let s = c.args in
    rw (handed_on _ _ c.from_residual.ensures.1)
    (met_refused s.path_nos.now s.coords.now s.paths s.work.now (verdict_told c.check_lent.result) c.check_lent.ensures _ (ap verdict_told c.in_err-check_lent.was))

pub bad_answer-requires : goal.bad_answer-requires
bad_answer-requires c =
    let s = c.args in
    omega (arith, c.first_bad-bad.ensures, bad_most s.path_nos.now s.paths)

pub returns-then-bad-path_nos : goal.returns-then-bad-path_nos
returns-then-bad-path_nos c =
    let s = c.args in
    let fine = ap verdict_told c.in_ok-check_lent.was in
    let b = c.first_bad-bad.ensures in
    rw (c.bad_answer.ensures, b) (met_bad s.path_nos.now s.coords.now s.paths s.work.now (verdict_told c.check_lent.result) c.check_lent.ensures fine (omega (arith, b, c.if-bad-path_nos.true)))

pub first_open-l-requires : goal.first_open-l-requires
first_open-l-requires c =
    let s = c.args in
    let fine = ap verdict_told c.in_ok-check_lent.was in
    ready s.path_nos.now s.paths s.coords.now s.work.now (sym c.check_lent.ensures ∙ fine) (omega (arith, c.first_bad-bad.ensures, c.if-bad-path_nos.false))

pub returns : goal.returns
returns c =
    let s = c.args in
    let fine = ap verdict_told c.in_ok-check_lent.was in
    let b = c.first_bad-bad.ensures in
    let all : length s.path_nos.now ≤ first_bad s.path_nos.now s.paths = omega (arith, b, c.if-bad-path_nos.false) in
    let o = c.first_open-l in
    let room = has_room s.path_nos.now s.paths s.coords.now s.work.now (sym c.check_lent.ensures ∙ fine) in
    let part : length o.new.work ≡ s.paths * room_words = o.auto.work ∙ length-take-le (s.paths * room_words) s.work.now room in
    rw (c.open_answer.ensures, o.ensures, c.clear.ensures, cleared_is (s.paths * room_words) o.new.work s.work.now room part)
    (met_open s.path_nos.now s.coords.now s.paths s.work.now (verdict_told c.check_lent.result) c.check_lent.ensures fine all)
