use mathlib.Core.Path.{◌≡◌}
use Prim.Native.Nat.{◌≤◌, ◌-◌, ◌+◌}
use lib.ListN.{length}
use Rattle.lists.specs.Sums.{sum}
use Rattle.meeting.specs.Meeting.{starts_at, lens_in}
use Rattle.meeting.specs.Found.{KeptBelow, ApartIn}
use Rattle.meeting.proofs.Stores.{OnesFrom}
use Rattle.meeting.proofs.Windows.{Flags}
use Rattle.meeting.proofs.pass.Given as goal

abbrev pub invariant-loop-i : goal.invariant-loop-i
invariant-loop-i l =
    KeptBelow l.free l.initial.work l.work × Flags (starts_at l.initial.work l.at) (lens_in l.lens) l.i l.low l.free l.width l.work
    × ApartIn (starts_at l.initial.work l.at) (lens_in l.lens) l.low (l.low + l.width) l.i × OnesFrom l.free l.work × (sum l.work ≡ sum l.initial.work + l.words) × (l.words ≤ length l.initial.work - l.free)
