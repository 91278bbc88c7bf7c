-- `outlines::first_bad` meets its contract. The loop's invariant: no line passed is refused. Assumes nothing.
use native.Mathlib.Omega.{arith}
use lib.ListN.{length}
use Rattle.meeting.proofs.FirstLaws.{first_is}
use Rattle.outlines.specs.Call.{bad_line, first_bad}
use Rattle.outlines.proofs.first_bad.Goals as goal

pub returns-then-l-paths : goal.returns-then-l-paths
unfolding first_bad
returns-then-l-paths c =
    let a = c.args in
    let l = c.loop-l in
    first_is (bad_line a.path_nos.now a.paths) (length a.path_nos.now) l.l (omega arith) (λ h. c.if-l-paths.true) l.invariant

pub returns : goal.returns
unfolding first_bad
returns c =
    let a = c.args in
    let l = c.loop-l in
    first_is (bad_line a.path_nos.now a.paths) (length a.path_nos.now) (length a.path_nos.now) (omega arith) (λ h. absurd (omega arith)) (λ k h. l.invariant k (omega arith))
