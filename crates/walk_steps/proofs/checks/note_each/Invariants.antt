use mathlib.Core.Path.{◌≡◌}
use Prim.Native.Nat.{◌-◌}
use lib.ListN.{length}
use Rattle.walk.specs.Step.{last_z_word}
use Rattle.acts.specs.Acts.{check_no, steps_acts, delta_of}
use Rattle.hits.specs.Steps.{hit_at}
use Rattle.hits.specs.Notes.{Notes}
use Rattle.walk_steps.proofs.checks.note_each.Given as goal

abbrev pub invariant-loop-i : goal.invariant-loop-i
invariant-loop-i l =
    (l.last_z ≡ last_z_word l.pace l.i) × Notes (hit_at l.pace l.path) l.from (l.i - l.from) l.notes (length l.backs)
    × (check_no (delta_of l.up) (steps_acts (hit_at l.pace l.path) (l.to - l.i) l.i) l.backs l.counts ≡ check_no (delta_of l.up) (steps_acts (hit_at l.pace l.path) (l.to - l.from) l.from) l.backs l.counts)
