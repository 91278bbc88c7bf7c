use mathlib.Core.Path.{◌≡◌}
use Prim.Native.Nat.{◌-◌, ◌/◌, ◌≤◌}
use lib.ListN.{length, get_or}
use Rattle.panel.specs.Widths.{ref_words}
use Rattle.acts.specs.Acts.{st_of}
use Rattle.acts.specs.Line.{batch_of}
use Rattle.hits.specs.Notes.{note_words}
use Rattle.new_lines.specs.Own.{own_step, lines_ran, lines_told}
use Rattle.new_lines.proofs.count_lines.Given as goal

abbrev pub invariant-loop-k : goal.invariant-loop-k
invariant-loop-k l =
    (l.k ≤ length l.path_nos) × (length l.notes ≡ note_words)
    × (lines_told l.line_nos (batch_of (λ j. own_step l.path l.path_nos l.coords l.paths (length l.initial.refs / ref_words) (get_or l.line_nos j 0) j) l.k (length l.path_nos - l.k) (st_of l.backs l.counts l.refs l.made))
    ≡ lines_told l.line_nos (lines_ran l.path l.line_nos l.path_nos l.coords l.paths (length l.initial.refs / ref_words) (st_of l.initial.backs l.initial.counts l.initial.refs 0)))

abbrev pub decreases-loop-k : goal.decreases-loop-k
decreases-loop-k l = length l.path_nos - l.k
