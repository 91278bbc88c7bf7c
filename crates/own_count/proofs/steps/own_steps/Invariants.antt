use mathlib.Core.List.{List}
use Prim.Native.Nat.{ℕ, ◌-◌}
use Rattle.panel.specs.Verdict.{Verdict}
use Rattle.own_count.specs.View.{Acted}
use Rattle.acts.specs.Acts.{steps_acts, delta_of}
use Rattle.hits.specs.Steps.{hit_at}
use Rattle.own_count.proofs.steps.own_steps.Given as goal

abbrev pub invariant-loop-i : goal.invariant-loop-i
invariant-loop-i l =
    (ws : List ℕ) (v : Verdict) → Acted (delta_of l.up) (steps_acts (hit_at l.pace l.path) (l.to - l.i) l.i) l.n l.work ws (l.to - l.i) v
    → Acted (delta_of l.up) (steps_acts (hit_at l.pace l.path) (l.to - l.from) l.from) l.n l.initial.work ws (l.to - l.from) v
