use Prim.Native.Nat.{◌+◌, ◌-◌, ◌≤◌, ◌^◌}
use lib.ListN.{length, get_or}
use Rattle.panel.specs.Limits.{most_lines}
use Rattle.stretches.specs.Stretches.{InOrder}
use Rattle.stretches.proofs.stretch.Given as goal

abbrev pub invariant-loop-n : goal.invariant-loop-n
invariant-loop-n l = (l.k + l.n ≤ length l.path_nos) × InOrder l.path l.line_nos l.path_nos l.k l.n × (get_or l.line_nos l.k 0 + l.n ≤ 2 ^ 32)

abbrev pub decreases-loop-n : goal.decreases-loop-n
decreases-loop-n l = most_lines - l.n
