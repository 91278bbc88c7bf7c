-- `meeting::clear` meets its contract. The loop's invariant: what is passed is 0, what lies below is kept.
-- Assumes nothing.
use native.Mathlib.Omega.{arith}
use Rattle.meeting.proofs.Stores.{kept_all, kept_store, clear_turn, clear_end}
use Rattle.meeting.proofs.clear.Goals as goal

pub loop-k-init : goal.loop-k-init
loop-k-init c = (kept_all _ _, λ j l u. absurd (omega arith))

pub loop-k-preserved : goal.loop-k-preserved
loop-k-preserved c =
    let l = c.loop-k in
    let i = l.invariant in
    (kept_store _ _ 0 _ _ l.auto.k i.0, clear_turn _ l.k l.work (omega (arith, i.0.same_length)) i.1)

pub returns : goal.returns
returns c = (c.loop-k.invariant.0, clear_end _ c.loop-k.k c.loop-k.work (omega (arith, c.loop-k.invariant.0.same_length)) c.loop-k.invariant.1)
