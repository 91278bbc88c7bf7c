use mathlib.Core.Path.{◌≡◌}
use Prim.Native.Nat.{◌-◌, ◌≤◌}
use Rattle.panel.specs.Limits.{most_commands}
use Rattle.commands.specs.Moves.{trace_of}
use Rattle.pixel.specs.Place.{place_at}
use Rattle.pixel.specs.Colour.{under_list}
use Rattle.pixel.proofs.Left.{left}
use Rattle.pixel.proofs.run.colour_of.Given as goal

abbrev pub invariant-loop-tag : goal.invariant-loop-tag
invariant-loop-tag l = (l.count ≤ most_commands) ×
    (left l.segments (place_at l.column l.row) (trace_of (most_commands - l.count) l.words l.segments l.at) l.p ≡ under_list l.words l.segments l.t (place_at l.column l.row))

abbrev pub decreases-loop-tag : goal.decreases-loop-tag
decreases-loop-tag l = most_commands - l.count
