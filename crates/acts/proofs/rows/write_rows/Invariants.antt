use mathlib.Core.List.{[]}
use mathlib.Core.Path.{◌≡◌}
use Prim.Native.Nat.{◌-◌}
use Rattle.acts.specs.Acts.{run_acts, row_acts, st_of, delta_of}
use Rattle.acts.specs.Rows.{rows_acts}
use Rattle.acts.proofs.rows.write_rows.Given as goal

abbrev pub invariant-loop-y : goal.invariant-loop-y
invariant-loop-y l =
    run_acts (delta_of l.up) 0 (row_acts l.rows.first l.rows.top l.rows.width (l.rows.high - l.y) l.y) (st_of l.backs [] [] 0) ≡ run_acts (delta_of l.up) 0 (rows_acts l.rows) (st_of l.fn.backs [] [] 0)
