-- `entries::first_slots` meets its contract. The first past the room, then the first meeting among those before it.
-- Assumes nothing.
use native.Mathlib.Omega.{arith}
use Prim.Native.Nat.{ℕ, ◌+◌, ◌-◌, ◌≤◌}
use lib.ListN.{length}
use Rattle.meeting.specs.Meeting.{starts_at}
use Rattle.meeting.proofs.Stores.{kept_trans, kept_less}
use Rattle.meeting.proofs.WorkLaws.{visits_all, words_few}
use Rattle.entries.proofs.Laws.{slots_most, slots_whole, slots_low}
use Rattle.entries.proofs.first_slots.Goals as goal

below : (at n free : ℕ) → at + n ≤ free → at ≤ free
below at n free h = omega arith

pub meeting-requires : goal.meeting-requires
meeting-requires c =
    let a = c.args in
    let p = c.requires in
    let n = c.note_slots-n in
    let s = n.ensures in
    let m : n.result ≤ length a.counts.now = slots_most a.room a.counts.now a.stored.now a.work.now n.new.work a.at n.result s in
    (omega (arith, m, p.0), omega (arith, s.kept.same_length, p.1), (λ h. omega (arith, s.kept.same_length, m, p.1)), omega (arith, m, p.2))

pub returns : goal.returns
returns c =
    let a = c.args in
    let p = c.requires in
    let n = c.note_slots-n in
    let s = n.ensures in
    let w = n.new.work in
    let g = c.meeting in
    let m : n.result ≤ length a.counts.now = slots_most a.room a.counts.now a.stored.now a.work.now w a.at n.result s in
    let low = slots_low a.room a.counts.now a.stored.now a.work.now w a.at n.result s in
    let width : length a.counts.now ≤ length w - a.free = omega (arith, s.kept.same_length, p.1) in
    let words =
    words_few (starts_at w a.at) n.result (length w - a.free) g.result.passes g.result.words a.room g.ensures.2 g.ensures.3 low (omega (arith, m, width)) in (
      slots_whole a.room a.counts.now a.stored.now a.work.now w a.at n.result s g.result.first g.ensures.0,
      kept_trans a.at a.work.now w g.new.work s.kept (kept_less a.free a.at w g.new.work (below _ _ _ p.0) g.ensures.1),
      visits_all (starts_at w a.at) n.result (length w - a.free) g.result.passes g.result.ranges a.room (length a.counts.now) g.ensures.2 g.ensures.4
          low m width,
      omega (arith, words, s.kept.same_length),
    )
