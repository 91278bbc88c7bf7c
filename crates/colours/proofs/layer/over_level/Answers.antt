-- `colours::layer::over_level` meets its contract: a row that stays flat, and one that isn't. Assumes nothing.
use Rattle.sides.specs.Tile.{row_start}
use Rattle.colours.specs.Layer.{mixed, each}
use Rattle.colours.proofs.LayerLaws.{painted, at_level}
use Rattle.colours.proofs.FlatLaws.{stays_flat, not_flat, changed_length}
use Rattle.colours.proofs.layer.over_level.Goals as goal

pub returns-then-flat-y : goal.returns-then-flat-y
returns-then-flat-y c =
    let a = c.args in
    let p = c.requires in (
      changed_length (mixed _) _ _ a.rgba.now _ p.1 c.one.ensures,
      stays_flat a.area.now a.fg a.y a.flat.now a.rgba.now _ p.1 p.0 _ c.if-flat-y.true p.3
          c.share-more.ensures c.one.ensures,
    )

pub returns-else-flat-y : goal.returns-else-flat-y
returns-else-flat-y c =
    let a = c.args in
    let p = c.requires in
    let l = at_level a.area.now a.fg _ (row_start a.y) p.3 c.share-more.ensures in
    let e = painted a.area.now a.fg _ (row_start a.y) _ _ _ l c.row.ensures in (
      changed_length (each a.area.now a.fg) _ _ a.rgba.now _ p.1 e,
      not_flat a.area.now a.fg a.y a.flat.now a.rgba.now _ p.1 p.0 c.if-flat-y.false e,
    )
