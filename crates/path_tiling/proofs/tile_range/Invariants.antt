use Prim.Native.Nat.{◌-◌}
use Rattle.panel.specs.Pieces.{pieces}
use Rattle.looks.specs.Look.{lent}
use Rattle.path_tiling.proofs.RunLaws.{Going}
use Rattle.path_tiling.proofs.tile_range.Given as goal

abbrev pub invariant-loop-k : goal.invariant-loop-k
invariant-loop-k l =
    Going l.from l.to (lent l.path_nos l.coords l.paths l.stored l.refs) l.slots (pieces l.initial.segments l.initial.tags) (pieces l.segments l.tags) l.k

abbrev pub decreases-loop-k : goal.decreases-loop-k
decreases-loop-k l = l.to - l.k
