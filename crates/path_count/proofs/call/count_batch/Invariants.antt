use mathlib.Core.Path.{◌≡◌}
use Prim.Native.Nat.{◌-◌, ◌/◌, ◌≤◌}
use lib.ListN.{length}
use Rattle.panel.specs.Widths.{ref_words}
use Rattle.acts.specs.Acts.{st_of}
use Rattle.path_count.specs.Runs.{batch_from}
use Rattle.path_count.proofs.call.count_batch.Given as goal

abbrev pub invariant-loop-s : goal.invariant-loop-s
invariant-loop-s l =
    (l.s.lines ≤ l.end)
    × (batch_from l.base l.path_nos l.coords l.paths (length l.initial.refs / ref_words) l.s.lines l.end (st_of l.backs l.counts l.refs l.s.refs)
    ≡ batch_from l.base l.path_nos l.coords l.paths (length l.initial.refs / ref_words) l.initial.s.lines l.end (st_of l.initial.backs l.initial.counts l.initial.refs l.initial.s.refs))

abbrev pub decreases-loop-s : goal.decreases-loop-s
decreases-loop-s l = l.end - l.s.lines
