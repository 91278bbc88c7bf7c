-- `meeting::flag` meets its contract. The loop's invariant: none of the words passed was flagged, and each is now.
-- Assumes nothing.
use mathlib.Core.Path.{◌≡◌}
use Prim.Native.Nat.{◌<◌}
use native.Mathlib.Omega.{arith}
use lib.ListN.{length}
use Rattle.meeting.proofs.Stores.{kept_all, kept_store, flags_none, flags_turn, flag_turn_sum, flag_here, flag_end}
use Rattle.meeting.proofs.flag.Goals as goal

pub loop-k-init : goal.loop-k-init
loop-k-init c = (kept_all _ _, flags_none _ _, omega arith)

pub bounds-work-k : goal.bounds-work-k
bounds-work-k c = omega (arith, c.loop-k.invariant.0.same_length)

pub returns-then-work-k-ne0 : goal.returns-then-work-k-ne0
returns-then-work-k-ne0 c =
    let l = c.loop-k in
    let i = l.invariant in
    (i.0, flag_here _ l.work _ _ l.k l.auto.k (omega arith) c.if-work-k-ne0.true i.1 i.2)

pub bounds-work-k-in-loop-k : goal.bounds-work-k-in-loop-k
bounds-work-k-in-loop-k c = omega (arith, c.loop-k.invariant.0.same_length)

pub loop-k-preserved : goal.loop-k-preserved
loop-k-preserved c =
    let l = c.loop-k in
    let i = l.invariant in
    let there : l.k < length l.work = omega (arith, i.0.same_length) in
    let more = flag_turn_sum c.args.work.now l.work _ l.k l.auto.k there c.if-work-k-ne0.false i.2 in
    (kept_store _ _ 1 _ _ l.auto.k i.0, flags_turn _ _ _ _ l.auto.k there c.if-work-k-ne0.false i.1, more)

pub returns : goal.returns
returns c =
    let l = c.loop-k in
    let i = l.invariant in
    let all : l.k ≡ c.args.b = omega arith in
    (i.0, flag_end _ _ _ _ c.requires.0 (rw all at i.1) (rw all at i.2))
