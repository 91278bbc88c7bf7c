use Prim.Native.Nat.{◌+◌, ◌*◌}
use mathlib.Core.Path.{◌≡◌}
use lib.ListN.{drop}
use lib.Seq.{sets}
use Rattle.present.specs.Pixels.{bytes_each, row_bytes}
use Rattle.present.proofs.put_row.Given as goal

abbrev pub invariant-loop-i : goal.invariant-loop-i
invariant-loop-i l = sets l.out (l.at + bytes_each * l.i) (row_bytes l.order (drop l.i l.row)) ≡ sets l.initial.out l.at (row_bytes l.order l.row)
