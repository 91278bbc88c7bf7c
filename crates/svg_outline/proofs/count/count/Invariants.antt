use Prim.Native.Nat.{◌-◌}
use lib.ListN.{length}
use Rattle.svg_outline.proofs.Texts.{Counting}
use Rattle.svg_outline.proofs.count.count.Given as goal

abbrev pub invariant-loop-i : goal.invariant-loop-i
invariant-loop-i l = Counting l.s l.depth l.room l.g l.n l.i

abbrev pub decreases-loop-i : goal.decreases-loop-i
decreases-loop-i l = length l.s - l.i
