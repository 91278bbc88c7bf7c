use mathlib.Core.Path.{◌≡◌}
use Prim.Native.Nat.{◌+◌, ◌≤◌, ◌<◌, ◌^◌}
use Rattle.lists.specs.Run.{done}
use Rattle.panel.specs.Limits.{most_lines}
use Rattle.own_count.specs.Own.{own_to}
use Rattle.own_count.specs.View.{view_of, StartsNoted}
use Rattle.own_count.proofs.lines.own_lines.Given as goal

abbrev pub invariant-loop-l : goal.invariant-loop-l
invariant-loop-l l =
    (l.l ≤ most_lines) × (own_to l.path_nos l.coords l.paths l.n l.l ≡ done (view_of l.n l.work l.made))
    × StartsNoted l.path_nos l.coords l.paths l.n l.work (l.n + l.n) l.l × (l.made < 2 ^ 32)
