-- `entries::note_slots` meets its contract. The loop's invariant: no tile passed has a slot past the room, and their first slots are noted.
-- Assumes nothing.
use native.Mathlib.Omega.{arith}
use mathlib.Core.Path.{◌≡◌, sym, ◌∙◌}
use Prim.Native.Nat.{◌<◌, ◌+◌}
use lib.ListN.{length}
use Rattle.entries.specs.Entries.{past_room}
use Rattle.entries.proofs.Laws.{below_next, slots_store, past_here, past_end}
use Rattle.entries.proofs.note_slots.Goals as goal

pub returns-then-past : goal.returns-then-past
returns-then-past c =
    let a = c.args in
    let l = c.loop-t in
    let v = l.invariant in
    record {
      first_past = past_here a.room a.counts.now a.stored.now l.t c.loop-t-test.true v.0 (sym c.past.ensures ∙ c.if-past.true);
      kept = v.1;
      noted = v.2;
    }

pub loop-t-preserved : goal.loop-t-preserved
loop-t-preserved c =
    let a = c.args in
    let l = c.loop-t in
    let v = l.invariant in
    let there : a.at + l.t < length l.work = omega (arith, v.1.same_length) in
    let t = slots_store a.counts.now a.stored.now a.work.now l.work a.at l.t _ there v.1 c.noted.ensures v.2 in
    (below_next (past_room a.room a.counts.now a.stored.now) l.t v.0 (sym c.past.ensures ∙ c.if-past.false), t.0, t.1)

pub returns : goal.returns
returns c =
    let a = c.args in
    let l = c.loop-t in
    let v = l.invariant in
    let all : l.t ≡ length a.counts.now = omega arith in
    record { first_past = sym all ∙ past_end a.room a.counts.now a.stored.now l.t all v.0; kept = v.1; noted = rw all at v.2 }
