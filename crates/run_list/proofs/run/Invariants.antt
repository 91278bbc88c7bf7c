use mathlib.Core.Path.{◌≡◌}
use Prim.Native.Nat.{◌-◌, ◌≤◌}
use lib.ListN.{length}
use Rattle.panel.specs.Limits.{most_commands}
use Rattle.sides.specs.Tile.{tile_size}
use Rattle.commands.specs.Moves.{trace_of}
use Rattle.commands.specs.Alike.{left}
use Rattle.colours.specs.Layer.{meant, NoMinus}
use Rattle.run_list.proofs.run.Given as goal

abbrev pub invariant-loop-tag : goal.invariant-loop-tag
invariant-loop-tag l = (l.count ≤ most_commands) × (length l.area ≡ tile_size) × (length l.rgba ≡ tile_size) ×
    (left l.segments (trace_of (most_commands - l.count) l.words l.segments l.at) l.area (meant l.flat l.rgba)
    ≡ left l.segments (trace_of (most_commands - l.gone) l.words l.segments l.start) l.initial.area (meant l.initial.flat l.initial.rgba))
    × NoMinus l.area

abbrev pub decreases-loop-tag : goal.decreases-loop-tag
decreases-loop-tag l = most_commands - l.count
