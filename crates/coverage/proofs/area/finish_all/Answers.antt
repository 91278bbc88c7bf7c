-- `coverage::area::finish_all` meets its contract. The invariant: the pixels below i are done. Assumes nothing.
use lib.Ieee.{nan}
use Rattle.sides.specs.Tile.{tile_size}
use Rattle.coverage.specs.Coverage.{finish_of}
use Rattle.ranges.proofs.Turn.{begun, turned, ended}
use native.Mathlib.Omega.{arith}
use borrow.Author.Rules.{rules}
use Rattle.coverage.proofs.area.finish_all.Goals as goal

pub loop-i-init : goal.loop-i-init
loop-i-init c = begun (λ k x. finish_of _ x) nan _

pub loop-i-preserved : goal.loop-i-preserved
loop-i-preserved c =
    let l = c.loop-i in
    turned (λ k x. finish_of c.args.eo x) nan 0 l.i _ l.area _ (search rules) l.invariant c.finish.ensures

pub shape_of-area : goal.shape_of-area
shape_of-area c = c.loop-i.invariant.0

pub returns : goal.returns
returns c = ended (λ k x. finish_of c.args.eo x) nan tile_size c.loop-i.i _ _ c.loop-i.invariant c.requires (omega arith)
