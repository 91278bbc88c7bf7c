use Prim.Native.Nat.{◌+◌}
use Rattle.ranges.proofs.Turn.{Done}
use Rattle.ranges.proofs.clear.Given as goal

abbrev pub invariant-loop-i : goal.invariant-loop-i
invariant-loop-i g l = Done (λ k x. l.zero) l.a (l.a + l.i) l.initial.xs l.xs
