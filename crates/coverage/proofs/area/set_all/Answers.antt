-- `coverage::area::set_all` meets its contract. The invariant: the pixels below i are done. Assumes nothing.
use mathlib.Core.Path.{refl}
use lib.Ieee.{nan}
use Rattle.sides.specs.Tile.{tile_size}
use Rattle.ranges.proofs.Turn.{begun, turned, ended}
use native.Mathlib.Omega.{arith}
use borrow.Author.Rules.{rules}
use Rattle.coverage.proofs.area.set_all.Goals as goal

pub loop-i-init : goal.loop-i-init
loop-i-init c = begun (λ k x. _) nan _

pub loop-i-preserved : goal.loop-i-preserved
loop-i-preserved c =
    let l = c.loop-i in
    turned (λ k x. c.args.v) nan 0 l.i _ l.area _ (search rules) l.invariant refl

pub shape_of-area : goal.shape_of-area
shape_of-area c = c.loop-i.invariant.0

pub returns : goal.returns
returns c = ended (λ k x. c.args.v) nan tile_size c.loop-i.i _ _ c.loop-i.invariant c.requires (omega arith)
