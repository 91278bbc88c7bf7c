use mathlib.Core.Path.{◌≡◌}
use Prim.Native.Nat.{◌≤◌}
use lib.ListN.{length}
use Rattle.panel.specs.Limits.{most_lines, most_slots}
use Rattle.sizes.specs.Refs.{lines_size}
use Rattle.sizes.proofs.lines.size_lines.Given as goal

abbrev pub invariant-loop-l : goal.invariant-loop-l
invariant-loop-l l =
    (l.l ≤ most_lines) × (l.made ≤ most_slots) × (lines_size l.path_nos l.coords l.paths l.l (length l.path_nos) l.made ≡ lines_size l.path_nos l.coords l.paths 0 (length l.path_nos) 0)
