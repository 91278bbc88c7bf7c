use mathlib.Core.Path.{◌≡◌}
use Prim.Native.Nat.{◌-◌}
use Rattle.acts.specs.Acts.{check_no, steps_acts, delta_of}
use Rattle.hits.specs.Steps.{hit_at}
use Rattle.quick_notes.proofs.pass_steps.Given as goal

abbrev pub invariant-loop-i : goal.invariant-loop-i
invariant-loop-i l =
    check_no (delta_of l.up) (steps_acts (hit_at l.pace l.path) (l.to - l.i) l.i) l.backs l.counts ≡ check_no (delta_of l.up) (steps_acts (hit_at l.pace l.path) (l.to - l.from) l.from) l.backs l.counts
