use Prim.Native.Nat.{◌-◌}
use lib.ListN.{length}
use Rattle.svg_outline.proofs.Texts.{Going}
use Rattle.svg_outline.proofs.write.write.Given as goal

abbrev pub invariant-loop-i : goal.invariant-loop-i
invariant-loop-i l = Going l.s l.depth l.initial.out l.out l.g l.h l.i

abbrev pub decreases-loop-i : goal.decreases-loop-i
decreases-loop-i l = length l.s - l.i
