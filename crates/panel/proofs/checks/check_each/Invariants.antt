use mathlib.Core.Path.{◌≡◌}
use Prim.Native.Nat.{◌-◌}
use Rattle.panel.specs.Paths.{paths_from}
use Rattle.panel.proofs.checks.check_each.Given as goal

abbrev pub invariant-loop-k : goal.invariant-loop-k
invariant-loop-k l = paths_from l.paths l.tiles (l.n - l.k) l.k l.end ≡ paths_from l.paths l.tiles l.n 0 0
