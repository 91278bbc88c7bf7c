use mathlib.Core.Path.{◌≡◌}
use mathlib.Core.Bool.{false}
use Prim.Native.Nat.{◌-◌}
use Rattle.float32.specs.Meaning.{sign_of}
use Rattle.util.specs.Constants.{zero}
use Rattle.panel.specs.Limits.{most_commands}
use Rattle.commands.specs.Moves.{trace_of}
use Rattle.commands.specs.Alike.{same_colour, run_from}
use Rattle.on_pixels.proofs.begin.Given as goal

abbrev pub invariant-loop-count : goal.invariant-loop-count
invariant-loop-count l =
    (run_from l.segments (trace_of most_commands l.words l.segments l.start) zero (same_colour l.initial.px) ≡ run_from l.segments (trace_of (most_commands - l.count) l.words l.segments l.at) l.area (same_colour l.px))
    × (sign_of l.area ≡ false)
