-- `svg_path::check` meets its contract: what is left to read from here gives the verdict of the whole. Assumes nothing.
use mathlib.Core.Path.{◌≡◌}
use mathlib.Core.Bool.{true, false}
use native.Mathlib.Omega.{arith}
use Rattle.std.proofs.lemmas.Result.{err_from_is_err_and}
use Rattle.svg_path.specs.Step.{To, Off}
use Rattle.svg_path.proofs.Turn.{turn, stops, ends_within}
use Rattle.svg_path.proofs.check.Goals as goal

pub returns-in_err-q : goal.returns-in_err-q
returns-in_err-q c =
    let p = err_from_is_err_and c.from_residual.result c.from_residual.ensures.1 in
    let o : c.take.result ≡ Off = grind arith in
    let n : c.in_err-q.field-0.0 ≡ c.loop-i.i = grind arith in
    rw (p.1, p.2, n) (stops _ c.args.s.now _ _ _ c.loop-i-test.true c.take.ensures o c.loop-i.invariant)

pub loop-i-preserved : goal.loop-i-preserved
loop-i-preserved c =
    let o : c.take.result ≡ To c.in_ok-q.q = grind arith in turn _ _ c.args.s.now _ _ _ c.loop-i-test.true c.take.ensures o c.loop-i.invariant

pub returns-then-finals : goal.returns-then-finals
returns-then-finals c = ends_within _ c.args.s.now _ true _ _ (omega arith) (omega arith) c.finals.ensures c.if-finals.true c.loop-i.invariant

pub returns-else-finals : goal.returns-else-finals
returns-else-finals c = ends_within _ c.args.s.now _ false _ _ (omega arith) (omega arith) c.finals.ensures c.if-finals.false c.loop-i.invariant
