use mathlib.Core.Path.{◌≡◌}
use lib.ListN.{length}
use Rattle.lists.specs.Grid.{mapi}
use Rattle.coverage.specs.Coverage.{area_after}
use Rattle.coverage.proofs.area.add_segments.Given as goal

abbrev pub invariant-loop-j : goal.invariant-loop-j
invariant-loop-j l = (length l.area ≡ length l.initial.area) × (l.area ≡ mapi (area_after l.segments l.first l.xt l.yt l.j) l.initial.area)
