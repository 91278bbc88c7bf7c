use Prim.Native.Nat.{◌-◌, ◌≤◌}
use mathlib.Core.Path.{◌≡◌}
use lib.ListN.{length, drop}
use lib.Seq.{sets}
use Rattle.ppm_read.proofs.copy.Given as goal

abbrev pub invariant-loop-at : goal.invariant-loop-at
invariant-loop-at l =
    (l.from ≤ l.at) × (length l.out ≡ length l.initial.out) × (sets l.out (l.at - l.from) (drop l.at l.file) ≡ sets l.initial.out 0 (drop l.from l.file))
