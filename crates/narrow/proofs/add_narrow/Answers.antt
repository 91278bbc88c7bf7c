-- `narrow::add_narrow` meets its contract: beside the span a part adds nothing of dy, or the whole (`NarrowLaws.antt`). Assumes nothing.
use Rattle.narrow.proofs.NarrowLaws.{narrow_row}
use Rattle.narrow.proofs.add_narrow.Goals as goal

pub returns : goal.returns
returns c =
    let a = c.args in
    let t = a.tables.now in
    narrow_row a.p a.edge a.dy a.g a.yi c.requires.1 c.requires.3 t.cols t.parts t.lefts t.shares a.area.now _ _ _
    c.four_added-four.ensures c.add_parts.ensures c.put_four.ensures
