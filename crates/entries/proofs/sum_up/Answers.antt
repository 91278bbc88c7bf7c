-- `entries::sum_up` meets its contract. The loop's invariant: the sums of the words passed are noted.
-- Assumes nothing.
use native.Mathlib.Omega.{arith}
use Rattle.entries.proofs.Laws.{sums_turn}
use Rattle.entries.proofs.sum_up.Goals as goal

pub overflow_add-sum : goal.overflow_add-sum
overflow_add-sum c =
    let a = c.args in
    let p = c.requires in
    let l = c.loop-t in
    let v = l.invariant in
    let z = sums_turn a.work.now l.work a.at a.n l.t l.sum c.loop-t-test.true p.0 p.1 p.2 v.0 v.1 v.2 in
    omega (arith, z.3)

pub loop-t-preserved : goal.loop-t-preserved
loop-t-preserved c =
    let a = c.args in
    let p = c.requires in
    let l = c.loop-t in
    let v = l.invariant in
    let z = sums_turn a.work.now l.work a.at a.n l.t l.sum c.loop-t-test.true p.0 p.1 p.2 v.0 v.1 v.2 in
    (z.0, z.1, z.2)
