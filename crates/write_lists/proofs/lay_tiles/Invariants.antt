use Prim.Native.Nat.{◌-◌, ◌/◌, ◌%◌, ◌<◌}
use Rattle.lists.specs.Sums.{from}
use Rattle.pairs.specs.Lent.{tables_of}
use Rattle.near.specs.Near.{Listed}
use Rattle.write_lists.proofs.TileLaws.{Tiled}
use Rattle.write_lists.proofs.lay_tiles.Given as goal

abbrev pub invariant-loop-t : goal.invariant-loop-t
invariant-loop-t l =
    Tiled (tables_of l.lent) l.cols l.n l.fresh (from l.t (l.n - l.t)) l.words l.initial.words
    × (0 < l.t % l.cols → Listed l.lent.paths.now (l.t % l.cols - 1) (l.t / l.cols) l.lists)
