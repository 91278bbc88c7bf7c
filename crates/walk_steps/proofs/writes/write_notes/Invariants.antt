use mathlib.Core.Path.{◌≡◌}
use Prim.Native.Nat.{◌-◌, ◌+◌}
use Rattle.acts.specs.Acts.{run_acts, st_of, steps_acts, delta_of}
use Rattle.hits.specs.Notes.{hits_by}
use Rattle.walk_steps.proofs.writes.write_notes.Given as goal

abbrev pub invariant-loop-i : goal.invariant-loop-i
invariant-loop-i l =
    run_acts (delta_of l.up) l.line.0 (steps_acts (hits_by l.notes l.from) (l.to - l.i) l.i) (st_of l.backs l.counts l.refs (l.made + (l.i - l.from)))
    ≡ run_acts (delta_of l.up) l.line.0 (steps_acts (hits_by l.notes l.from) (l.to - l.from) l.from) (st_of l.initial.backs l.initial.counts l.initial.refs l.made)
