-- `one_segment::add_all` meets its contract: the lists that `put` leaves have each row in its place. Assumes nothing.
use Rattle.tile_rows.proofs.RowsLaws.{all_rows}
use Rattle.one_segment.proofs.add_all.Goals as goal

pub returns : goal.returns
returns c =
    let a = c.args in
    let n = c.put.ensures in
    all_rows a.w a.yt _ _ _ _ _ n.0 n.1 n.2 n.3 n.4 _ _ c.requires c.add_rows.ensures
