use lib.ListN.{drop}
use Rattle.pairs.specs.Pairs.{pairs_of, tile_pairs}
use Rattle.pairs.specs.Lent.{tables_of}
use Rattle.lay_pairs.specs.Layout.{pen_of}
use Rattle.tile_list.proofs.RestLaws.{Lays}
use Rattle.tile_list.proofs.lay.lay_tile.Given as goal

abbrev pub invariant-loop-p : goal.invariant-loop-p
invariant-loop-p l =
    Lays (pairs_of (tables_of l.lent) l.x l.y (drop l.p-index l.near)) l.pen l.words (tile_pairs (tables_of l.lent) l.cols l.t) (pen_of l.t l.fresh) l.initial.words
