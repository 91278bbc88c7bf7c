-- `colours::layer::composite` meets its contract. The invariant: the rows above y are done. Assumes nothing.
use mathlib.Core.List.{[]}
use mathlib.Core.Path.{◌∙◌}
use native.Mathlib.Omega.{arith}
use Rattle.sides.specs.Tile.{tile_size, row_start}
use Rattle.ranges.proofs.Turn.{begun, ended}
use Rattle.colours.specs.Colour.{composite_of}
use Rattle.colours.specs.Layer.{each}
use Rattle.colours.proofs.LayerLaws.{row_on}
use Rattle.colours.proofs.FlatLaws.{meant_length}
use Rattle.colours.proofs.layer.composite.Goals as goal

pub loop-y-init : goal.loop-y-init
loop-y-init c =
    let a = c.args in
    (c.requires.0, begun (each a.area.now a.fg) [] _)

pub over_any-requires : goal.over_any-requires
over_any-requires c =
    let p = c.requires in
    (omega arith, c.loop-y.invariant.0, p.1, p.2)

pub loop-y-preserved : goal.loop-y-preserved
loop-y-preserved c =
    let a = c.args in
    let l = c.loop-y in
    (c.over_any.ensures.0, row_on (each a.area.now a.fg) l.y _ _ _ l.invariant.1 c.over_any.ensures.1)

pub returns : goal.returns
unfolding composite_of
returns c =
    let a = c.args in
    let l = c.loop-y in
    (l.invariant.0, ended (each a.area.now a.fg) [] tile_size (row_start l.y) _ _ l.invariant.1 (meant_length _ _ ∙ c.requires.0) (omega arith))
