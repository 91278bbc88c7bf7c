use mathlib.Core.Path.{◌≡◌}
use Prim.Native.Nat.{◌-◌}
use lib.ListN.{length}
use Rattle.backdrop.specs.Backdrop.{sum_paths}
use Rattle.backdrop.proofs.sum_paths.Given as goal

abbrev pub invariant-loop-k : goal.invariant-loop-k
invariant-loop-k l =
    (length l.backdrops ≡ length l.initial.backdrops) × (sum_paths l.paths (l.n - l.k) l.k l.backdrops ≡ sum_paths l.paths l.n 0 l.initial.backdrops)
