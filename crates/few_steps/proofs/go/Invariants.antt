use mathlib.Core.Path.{◌≡◌}
use Prim.Native.Nat.{◌-◌, ◌+◌}
use Rattle.strides.specs.Strides.{Before}
use Rattle.acts.specs.Acts.{run_acts, st_of, steps_acts, delta_of}
use Rattle.hits.specs.Steps.{hit_at}
use Rattle.few_steps.specs.Few.{Came}
use Rattle.few_steps.proofs.go.Given as goal

abbrev pub invariant-loop-i : goal.invariant-loop-i
invariant-loop-i l =
    Before l.pace l.i l.z
    × Came l.up l.notes l.i (st_of l.initial.backs l.initial.counts l.initial.refs l.made) (st_of l.backs l.counts l.refs (l.made + l.i))
    × (run_acts (delta_of l.up) l.line.0 (steps_acts (hit_at l.pace l.path) (l.n - l.i) l.i) (st_of l.backs l.counts l.refs (l.made + l.i))
    ≡ run_acts (delta_of l.up) l.line.0 (steps_acts (hit_at l.pace l.path) (l.n - 0) 0) (st_of l.initial.backs l.initial.counts l.initial.refs l.made))
