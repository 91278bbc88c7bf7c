use mathlib.Core.Path.{◌≡◌}
use Prim.Native.Nat.{◌-◌, ◌+◌}
use lib.ListN.{length, get_or}
use Rattle.ranges.proofs.Turn.{Done}
use Rattle.ranges.proofs.copy.Given as goal

abbrev pub invariant-loop-i : goal.invariant-loop-i
invariant-loop-i g l = (length l.to ≡ length l.initial.to) × ((d : _) → Done (λ k x. get_or l.from (l.a + (k - l.b)) d) l.b (l.b + l.i) l.initial.to l.to)
