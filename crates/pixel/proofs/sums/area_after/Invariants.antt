use mathlib.Core.Path.{◌≡◌}
use Rattle.coverage.specs.Coverage.{area_after}
use Rattle.pixel.specs.Place.{place_at}
use Rattle.pixel.proofs.sums.area_after.Given as goal

abbrev pub invariant-loop-j : goal.invariant-loop-j
invariant-loop-j l = l.a ≡ area_after l.segments l.first l.xt l.yt l.j (place_at l.column l.row) l.start
