use Rattle.meeting.specs.Meeting.{starts_at}
use Rattle.meeting.specs.Found.{NextStart}
use Rattle.meeting.proofs.next_start.Given as goal

abbrev pub invariant-loop-i : goal.invariant-loop-i
invariant-loop-i l = NextStart (starts_at l.work l.at) l.end l.i l.least
