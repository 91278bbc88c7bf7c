use mathlib.Core.Path.{◌≡◌}
use mathlib.Core.Bool.{false}
use Prim.Native.Nat.{ℕ, ◌<◌}
use lib.ListN.{length}
use Rattle.own_count.specs.View.{view_of}
use Rattle.tile_check.specs.Faults.{back_fault}
use Rattle.tile_check.proofs.backs.first_back.Given as goal

abbrev pub invariant-loop-t : goal.invariant-loop-t
invariant-loop-t l = (i : ℕ) → i < l.t → back_fault l.backs (view_of (length l.backs) l.work 0).backs i ≡ false
