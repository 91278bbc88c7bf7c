-- `colours::layer::over_slope` meets its contract: a row that was flat, and one that wasn't. Assumes nothing.
use mathlib.Core.Path.{refl}
use Rattle.colours.specs.Layer.{each, onto}
use Rattle.colours.proofs.FlatLaws.{ends_flat, not_flat, changed_length}
use Rattle.colours.proofs.layer.over_slope.Goals as goal

pub returns-then-flat-y : goal.returns-then-flat-y
returns-then-flat-y c =
    let a = c.args in
    let p = c.requires in (
      changed_length (onto a.area.now a.fg _) _ _ a.rgba.now _ p.1 c.row.ensures,
      ends_flat a.area.now a.fg a.y a.flat.now a.rgba.now _ p.1 p.0 _ c.if-flat-y.true refl c.row.ensures,
    )

pub returns-else-flat-y : goal.returns-else-flat-y
returns-else-flat-y c =
    let a = c.args in
    let p = c.requires in (
      changed_length (each a.area.now a.fg) _ _ a.rgba.now _ p.1 c.row-else-flat-y.ensures,
      not_flat a.area.now a.fg a.y a.flat.now a.rgba.now _ p.1 p.0 c.if-flat-y.false c.row-else-flat-y.ensures,
    )
