-- `one_segment::add_edge` meets its contract. The invariant: the row's pixels left of i are done. Assumes nothing.
use mathlib.Core.Path.{refl}
use lib.Ieee.{nan}
use Rattle.sides.specs.Tile.{tile_width, row_start}
use Rattle.ranges.proofs.Turn.{begun_at, turned_at, ended_at}
use Rattle.one_row.specs.Row.{edged}
use native.Mathlib.Omega.{arith}
use Rattle.one_segment.proofs.add_edge.Goals as goal

pub loop-i-init : goal.loop-i-init
loop-i-init c = begun_at (edged _) nan _ _

pub loop-i-preserved : goal.loop-i-preserved
unfolding edged
loop-i-preserved c =
    let l = c.loop-i in
    turned_at (edged c.args.edge) nan (row_start c.args.yi) l.i _ l.area _ l.invariant refl

pub shape_of-area : goal.shape_of-area
shape_of-area c = c.loop-i.invariant.0

pub returns : goal.returns
returns c = ended_at (edged _) nan _ tile_width c.loop-i.i _ _ c.loop-i.invariant (omega arith)
