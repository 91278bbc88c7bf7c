use mathlib.Core.Path.{◌≡◌}
use mathlib.Core.Bool.{true}
use Prim.Native.Nat.{◌-◌, ◌*◌, ◌/◌, ◌%◌, ◌^◌, ◌≤◌, ◌<◌}
use Rattle.lists.specs.Sums.{from}
use Rattle.pairs.specs.Lent.{tables_of}
use Rattle.write_lists.specs.Ready.{tiles_answer}
use Rattle.near.specs.Near.{Listed}
use Rattle.write_lists.proofs.check_tiles.Given as goal

abbrev pub invariant-loop-t : goal.invariant-loop-t
invariant-loop-t l =
    (l.fresh ≤ l.t * 2 ^ 32)
    × (tiles_answer (tables_of l.lent) l.cols l.room l.n l.words l.fresh l.slots (from l.t (l.n - l.t)) ≡ tiles_answer (tables_of l.lent) l.cols l.room l.n l.words 0 true (from 0 l.n))
    × (0 < l.t % l.cols → Listed l.lent.paths.now (l.t % l.cols - 1) (l.t / l.cols) l.lists)
