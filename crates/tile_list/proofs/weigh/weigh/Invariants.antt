use mathlib.Core.Path.{◌≡◌}
use lib.ListN.{drop}
use Rattle.pairs.specs.Pairs.{pairs_of}
use Rattle.pairs.specs.Lent.{tables_of}
use Rattle.tile_list.specs.Weight.{no_weight, weigh_all}
use Rattle.tile_list.proofs.WeighLaws.{Light}
use Rattle.tile_list.proofs.weigh.weigh.Given as goal

abbrev pub invariant-loop-p : goal.invariant-loop-p
invariant-loop-p l =
    Light l.p-index l.w
    × (weigh_all l.room (pairs_of (tables_of l.lent) l.x l.y (drop l.p-index l.near)) l.w ≡ weigh_all l.room (pairs_of (tables_of l.lent) l.x l.y l.near) no_weight)
