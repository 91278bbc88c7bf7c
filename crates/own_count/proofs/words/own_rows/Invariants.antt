use mathlib.Core.List.{List}
use Prim.Native.Nat.{ℕ, ◌-◌}
use Rattle.panel.specs.Verdict.{Verdict}
use Rattle.own_count.specs.View.{Acted}
use Rattle.acts.specs.Acts.{row_acts, delta_of}
use Rattle.acts.specs.Rows.{rows_acts}
use Rattle.own_count.proofs.words.own_rows.Given as goal

abbrev pub invariant-loop-y : goal.invariant-loop-y
invariant-loop-y l =
    (ws : List ℕ) (v : Verdict) → Acted (delta_of l.up) (row_acts l.rows.first l.rows.top l.rows.width (l.rows.high - l.y) l.y) l.n l.work ws 0 v → Acted (delta_of l.up) (rows_acts l.rows) l.n l.initial.work ws 0 v
