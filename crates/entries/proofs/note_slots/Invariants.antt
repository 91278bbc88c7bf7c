use mathlib.Core.Path.{◌≡◌}
use mathlib.Core.Bool.{false}
use Prim.Native.Nat.{ℕ, ◌<◌}
use Rattle.meeting.specs.Found.{KeptBelow}
use Rattle.entries.specs.Entries.{past_room}
use Rattle.entries.specs.Noted.{SlotsNoted}
use Rattle.entries.proofs.note_slots.Given as goal

abbrev pub invariant-loop-t : goal.invariant-loop-t
invariant-loop-t l =
    ((i : ℕ) → i < l.t → past_room l.room l.counts l.stored i ≡ false) × KeptBelow l.at l.initial.work l.work × SlotsNoted l.counts l.stored l.work l.at l.t
