-- `last_colour::put_over` meets its contract: a flat row of one area, one of several, and a row that isn't flat. Assumes nothing.
use mathlib.Core.Path.{refl, ap, ◌∙◌}
use Rattle.colours.specs.Colour.{pack_of}
use Rattle.last_colour.proofs.Lasts.{laid_level, laid_slope, laid_each}
use Rattle.last_colour.proofs.put_over.Goals as goal

pub returns-then-all_level : goal.returns-then-all_level
returns-then-all_level c =
    let p = c.requires in
    let a = c.args in
    laid_level a.area.now a.fg a.flat.now a.rgba.now p.5 a.width a.tx a.ty a.y p.2 p.3 _ _ _ _ c.if-flat-y.true refl
    (c.all_level.ensures c.if-all_level.true) (c.pack.ensures ∙ ap pack_of c.over.ensures) c.fill_row.ensures

pub returns-else-all_level : goal.returns-else-all_level
returns-else-all_level c =
    let p = c.requires in
    let a = c.args in
    laid_slope a.area.now a.fg a.flat.now a.rgba.now p.5 a.width a.tx a.ty a.y p.2 p.3 _ _ _ c.if-flat-y.true refl
    c.put_slope.ensures

pub returns-else-flat-y : goal.returns-else-flat-y
returns-else-flat-y c =
    let p = c.requires in
    let a = c.args in
    laid_each a.area.now a.fg a.flat.now a.rgba.now p.5 a.width a.tx a.ty a.y p.2 p.3 _ _ c.if-flat-y.false
    c.put_each.ensures
