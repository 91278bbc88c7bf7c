-- `screen_rows::put_any` meets its contract: one word for a flat row, and each pixel's own for another. Assumes nothing.
use Rattle.screen_rows.proofs.Flats.{put_flat, put_own}
use Rattle.screen_rows.proofs.put_any.Goals as goal

pub returns-then-flat-y : goal.returns-then-flat-y
returns-then-flat-y c =
    let a = c.args in
    put_flat a.flat.now a.rgba.now c.requires.5 a.width a.tx a.ty a.y c.requires.2 c.requires.3 _ _ _ c.if-flat-y.true
    c.pack.ensures c.fill_row.ensures

pub returns-else-flat-y : goal.returns-else-flat-y
returns-else-flat-y c =
    let a = c.args in
    put_own a.flat.now a.rgba.now c.requires.5 a.width a.tx a.ty a.y c.requires.2 c.requires.3 _ _ c.if-flat-y.false
    c.put_row.ensures
