use Prim.Native.Nat.{ℕ, ◌≤◌, ◌<◌, ◌-◌, ◌+◌, ◌*◌}
use lib.ListN.{length}
use Rattle.meeting.specs.Meeting.{starts_at, lens_in}
use Rattle.meeting.specs.Found.{KeptBelow, MeetsAt, keys}
use Rattle.meeting.proofs.Windows.{ApartBelow, Passes}
use Rattle.meeting.proofs.meeting.Given as goal

abbrev pub invariant-loop-best : goal.invariant-loop-best
invariant-loop-best l =
    (l.best ≤ l.n) × KeptBelow l.free l.initial.work l.work × (l.best < l.n → MeetsAt (starts_at l.initial.work l.at) (lens_in l.lens) l.best)
    × ApartBelow (starts_at l.initial.work l.at) (lens_in l.lens) l.low l.best × (l.low ≤ keys)
    × (0 < l.low → (i : ℕ) → i < l.best → starts_at l.initial.work l.at i < keys) × Passes (starts_at l.initial.work l.at) l.n (length l.initial.work - l.free) l.low l.passes
    × (l.words ≤ l.passes * (length l.initial.work - l.free + 1)) × (l.ranges ≤ l.passes * l.n)

abbrev pub decreases-loop-best : goal.decreases-loop-best
decreases-loop-best l = keys - l.low
