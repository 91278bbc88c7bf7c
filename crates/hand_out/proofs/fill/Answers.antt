-- `hand_out::fill` meets its contract. The loop's invariant: the tiles passed hold their words, their counts stand in the tally, and the next slot is the
-- sum of those counts. Assumes nothing.
use mathlib.Core.Path.{◌≡◌, ◌∙◌}
use Prim.Native.Nat.{◌+◌}
use native.Mathlib.Omega.{arith}
use Rattle.lists.specs.Sums.{first_within}
use Rattle.panel.proofs.LimitLaws.{small}
use Rattle.hand_out.specs.HandOut.{hand}
use Rattle.hand_out.proofs.HandLaws.{hand_turn, keep_turn, hand_end, keep_end}
use Rattle.hand_out.proofs.fill.Goals as goal

pub overflow_add-after : goal.overflow_add-after
overflow_add-after c =
    let l = c.loop-t in
    let i = l.invariant in
    let ns = c.args.counts.now in
    let z = hand_turn ns l.counts l.next.0 l.t c.word_of.result (omega arith) i.0 i.1 c.word_of.ensures in
    omega (arith, z.0, first_within ns (l.t + 1), small.slots)

pub loop-t-preserved : goal.loop-t-preserved
loop-t-preserved c =
    let l = c.loop-t in
    let i = l.invariant in
    let a = c.args in
    let z = hand_turn a.counts.now l.counts l.next.0 l.t c.word_of.result (omega arith) i.0 i.1 c.word_of.ensures in
    (z.0, z.1, keep_turn a.counts.now a.tally.now l.counts l.tally l.t c.requires.0 (omega arith) i.1 i.2)

pub returns : goal.returns
returns c =
    let l = c.loop-t in
    let i = l.invariant in
    let a = c.args in
    let full : l.counts ≡ hand 0 a.counts.now = i.1 ∙ hand_end a.counts.now l.t (omega arith) in
    let kept : l.tally ≡ a.counts.now = i.2 ∙ keep_end a.counts.now a.tally.now l.t (omega arith) (omega arith) in
    rw (full, kept)
