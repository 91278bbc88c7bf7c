-- `meeting::next_start` meets its contract. The loop's invariant: the least of the starts passed that lie at or past the end.
-- Assumes nothing.
use native.Mathlib.Omega.{arith}
use mathlib.Core.Path.{◌≡◌}
use Prim.Native.Nat.{◌<◌, ◌+◌}
use Rattle.meeting.specs.Meeting.{starts_at}
use Rattle.meeting.specs.Found.{keys}
use Rattle.meeting.proofs.Windows.{next_turn}
use Rattle.meeting.proofs.next_start.Goals as goal

pub loop-i-init : goal.loop-i-init
loop-i-init c = record {
  most = omega arith;
  past = λ h. absurd (omega arith);
  least = λ i h. absurd (omega arith);
  small = λ i h. absurd (omega arith);
  is_start = λ h. absurd (omega arith);
}

pub overflow_add-at : goal.overflow_add-at
overflow_add-at c = omega arith

pub bounds-work-at : goal.bounds-work-at
bounds-work-at c = omega arith

pub overflow_cast-work : goal.overflow_cast-work
overflow_cast-work c = omega (arith, c.type_inv.work (c.args.at + c.loop-i.i))

pub loop-i-preserved : goal.loop-i-preserved
loop-i-preserved c =
    let a = c.args in
    let l = c.loop-i in
    let key : starts_at a.work.now a.at l.i < keys = omega (arith, c.type_inv.work (a.at + l.i)) in
    next_turn (starts_at a.work.now a.at) (λ k. k) a.end l.i l.least _ key c.nearer-least.ensures l.invariant

pub returns : goal.returns
returns c =
    let l = c.loop-i in
    let all : l.i ≡ c.args.n = omega arith in
    rw (← all) l.invariant
