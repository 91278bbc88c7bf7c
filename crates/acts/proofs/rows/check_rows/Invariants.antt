use mathlib.Core.Path.{◌≡◌}
use Prim.Native.Nat.{◌-◌}
use Rattle.acts.specs.Acts.{check_no, row_acts, delta_of}
use Rattle.acts.specs.Rows.{rows_acts}
use Rattle.acts.proofs.rows.check_rows.Given as goal

abbrev pub invariant-loop-y : goal.invariant-loop-y
invariant-loop-y l =
    check_no (delta_of l.up) (row_acts l.rows.first l.rows.top l.rows.width (l.rows.high - l.y) l.y) l.backs l.counts ≡ check_no (delta_of l.up) (rows_acts l.rows) l.backs l.counts
