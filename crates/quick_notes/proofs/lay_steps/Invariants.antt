use mathlib.Core.Path.{◌≡◌}
use mathlib.Core.Bool.{true}
use Prim.Native.Nat.{◌-◌}
use Rattle.panel.specs.Paths.{end_of}
use Rattle.strides.specs.Strides.{Before}
use Rattle.hits.specs.Steps.{hit_at}
use Rattle.hits.specs.Notes.{Notes}
use Rattle.quick_notes.proofs.lay_steps.Given as goal

abbrev pub invariant-loop-i : goal.invariant-loop-i
invariant-loop-i l = l.good ≡ true → Before l.pace l.i l.last × Notes (hit_at l.pace l.path) l.from (l.i - l.from) l.notes (end_of l.path)
