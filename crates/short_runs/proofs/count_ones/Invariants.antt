use mathlib.Core.Path.{◌≡◌}
use mathlib.Core.List.{List}
use Prim.Native.Nat.{◌+◌, ◌/◌, ◌<◌, ◌^◌}
use lib.ListN.{length}
use lib.IntN.{ℤ}
use Rattle.lists.specs.Run.{done}
use Rattle.panel.specs.Widths.{ref_words}
use Rattle.acts.specs.Acts.{st_of}
use Rattle.walked_lines.specs.Line.{line_step}
use Rattle.short_runs.specs.Ones.{first_ran}
use Rattle.short_runs.proofs.count_ones.Given as goal

abbrev pub invariant-loop-n : goal.invariant-loop-n
invariant-loop-n l =
    (l.made + l.n < 2 ^ 32)
    × ((bs : List ℤ) → done (st_of bs l.counts l.refs (l.made + l.n))
    ≡ first_ran (λ j. line_step l.path_nos l.coords l.paths (length l.initial.refs / ref_words) (l.line.0 + j) (l.place + j)) l.n (st_of bs l.initial.counts l.initial.refs l.made))
