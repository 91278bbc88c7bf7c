use Prim.Native.Nat.{◌-◌}
use mathlib.Core.Path.{◌≡◌}
use Rattle.present.specs.Pixels.{rows_of}
use Rattle.present.proofs.put_rows.Given as goal

abbrev pub invariant-loop-y : goal.invariant-loop-y
invariant-loop-y l =
    rows_of l.order l.pixels l.screen l.width l.stride (l.height - l.y) l.y l.out ≡ rows_of l.order l.pixels l.screen l.width l.stride l.height 0 l.initial.out
