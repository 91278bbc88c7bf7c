-- `short_lines::piece_in` meets its contract: both ends are in the tile, and where none is on a whole column they stay. Assumes nothing.
use Rattle.short_lines.proofs.ShortLaws.{ends_inner, piece_moved, piece_plain}
use Rattle.short_lines.proofs.piece_in.Goals as goal

pub on_column-requires : goal.on_column-requires
on_column-requires c = (ends_inner _ _ _ _ c.inner.ensures c.inner-2.ensures c.if-not-inner.false).0.within

pub on_column-requires-2 : goal.on_column-requires-2
on_column-requires-2 c = (ends_inner _ _ _ _ c.inner.ensures c.inner-2.ensures c.if-not-inner.false).1.within

pub returns-then-on_column : goal.returns-then-on_column
returns-then-on_column c =
    let i = ends_inner _ _ _ _ c.inner.ensures c.inner-2.ensures c.if-not-inner.false in
    let a = c.args in
    piece_moved a.p0 a.p1 a.x a.y c.moved.result
    (rw (c.subtract-d0.ensures, c.subtract-d1.ensures, c.corner-t.ensures) at i)
    (rw (c.subtract-d0.ensures, c.subtract-d1.ensures, c.corner-t.ensures) at c.moved.ensures)

pub returns : goal.returns
returns c =
    let i = ends_inner _ _ _ _ c.inner.ensures c.inner-2.ensures c.if-not-inner.false in
    let a = c.args in
    rw (c.make.ensures, c.subtract-d0.ensures, c.subtract-d1.ensures, c.corner-t.ensures)
    (piece_plain a.p0 a.p1 a.x a.y
    (rw (c.subtract-d0.ensures, c.subtract-d1.ensures, c.corner-t.ensures) at i)
    (rw (c.on_column.ensures, c.on_column-2.ensures, c.subtract-d0.ensures, c.subtract-d1.ensures, c.corner-t.ensures)
    at c.if-on_column.false))
