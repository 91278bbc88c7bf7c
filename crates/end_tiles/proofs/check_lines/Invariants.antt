use mathlib.Core.Path.{◌≡◌}
use Prim.Native.Nat.{◌-◌, ◌≤◌}
use lib.ListN.{length}
use Rattle.panel.specs.Limits.{most_lines}
use Rattle.end_tiles.specs.Lines.{lines_from}
use Rattle.end_tiles.proofs.check_lines.Given as goal

abbrev pub invariant-loop-l : goal.invariant-loop-l
invariant-loop-l l = (l.l ≤ most_lines) × (lines_from l.path_nos l.coords l.n (length l.path_nos - l.l) l.l ≡ lines_from l.path_nos l.coords l.n (length l.path_nos) 0)
