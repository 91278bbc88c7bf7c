use mathlib.Core.Path.{◌≡◌}
use Prim.Native.Nat.{◌-◌, ◌+◌}
use Rattle.walk.specs.Step.{last_z_word}
use Rattle.acts.specs.Acts.{run_acts, st_of, steps_acts, delta_of}
use Rattle.hits.specs.Steps.{hit_at}
use Rattle.walk_steps.proofs.writes.write_steps.Given as goal

abbrev pub invariant-loop-i : goal.invariant-loop-i
invariant-loop-i l =
    (l.last_z ≡ last_z_word l.pace l.i)
    × (run_acts (delta_of l.up) l.line.0 (steps_acts (hit_at l.pace l.path) (l.to - l.i) l.i) (st_of l.backs l.counts l.refs (l.made + (l.i - l.from)))
    ≡ run_acts (delta_of l.up) l.line.0 (steps_acts (hit_at l.pace l.path) (l.to - l.from) l.from) (st_of l.initial.backs l.initial.counts l.initial.refs l.made))
