use mathlib.Core.Path.{◌≡◌}
use mathlib.Core.Bool.{◌&&◌}
use Prim.Native.Nat.{◌-◌}
use Rattle.backdrop.specs.Calm.{calm_from}
use Rattle.backdrop.proofs.rows.calm.Given as goal

abbrev pub invariant-loop-i : goal.invariant-loop-i
invariant-loop-i l = (l.ok && calm_from (l.end - l.i) l.i l.backdrops) ≡ calm_from (l.end - l.at) l.at l.backdrops
