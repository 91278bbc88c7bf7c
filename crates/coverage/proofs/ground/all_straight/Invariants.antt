use mathlib.Core.Path.{◌≡◌}
use mathlib.Core.Bool.{true}
use Rattle.coverage.specs.Ground.{straight_from}
use Rattle.coverage.proofs.ground.all_straight.Given as goal

abbrev pub invariant-loop-j : goal.invariant-loop-j
invariant-loop-j l = straight_from l.segments l.first l.j ≡ true
