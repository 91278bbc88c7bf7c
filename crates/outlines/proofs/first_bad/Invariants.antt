use mathlib.Core.Path.{◌≡◌}
use mathlib.Core.Bool.{false}
use Prim.Native.Nat.{ℕ, ◌<◌}
use Rattle.outlines.specs.Call.{bad_line}
use Rattle.outlines.proofs.first_bad.Given as goal

abbrev pub invariant-loop-l : goal.invariant-loop-l
invariant-loop-l l = (k : ℕ) → k < l.l → bad_line l.path_nos l.paths k ≡ false
