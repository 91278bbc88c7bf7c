-- `entries::first_count` meets its contract. The loop's invariant: each count passed is ours.
-- Assumes nothing.
use native.Mathlib.Omega.{arith}
use mathlib.Core.Path.{◌≡◌, sym, ◌∙◌}
use lib.ListN.{length}
use Rattle.entries.specs.Entries.{count_fault}
use Rattle.entries.proofs.Laws.{below_next, count_same, count_here, count_end}
use Rattle.entries.proofs.first_count.Goals as goal

pub returns-then-counts-t : goal.returns-then-counts-t
returns-then-counts-t c =
    let a = c.args in
    let l = c.loop-t in
    count_here a.counts.now a.work.now l.t c.loop-t-test.true l.invariant c.if-counts-t.true

pub loop-t-preserved : goal.loop-t-preserved
loop-t-preserved c =
    let a = c.args in
    let l = c.loop-t in
    below_next (count_fault a.counts.now a.work.now) l.t l.invariant (count_same a.counts.now a.work.now l.t c.if-counts-t.false)

pub returns : goal.returns
returns c =
    let a = c.args in
    let l = c.loop-t in
    let all : l.t ≡ length a.counts.now = omega arith in
    sym all ∙ count_end a.counts.now a.work.now l.t all l.invariant
