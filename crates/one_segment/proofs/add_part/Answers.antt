-- `one_segment::add_part` meets its contract: both arms change the row as `slanted` says. Assumes nothing.
use Rattle.narrow.proofs.NarrowLaws.{narrow_by}
use borrow.Author.Rules.{rules}
use Rattle.one_segment.proofs.add_part.Goals as goal

pub add_narrow-requires : goal.add_narrow-requires
add_narrow-requires c =
    let t = c.args.tables.now in
    (c.requires.0, c.requires.1, search rules, narrow_by c.args.p c.args.g t.cols t.lefts c.requires.1 c.requires.3 c.if-narrow.true)
