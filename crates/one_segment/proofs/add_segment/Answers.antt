-- `one_segment::add_segment` meets its contract: the rows that aren't gone through get nothing (`tile_rows`, OwnLaws). Assumes nothing.
use mathlib.Core.Path.{sym, ◌∙◌}
use Rattle.tile_rows.proofs.OwnLaws.{low_number, high_number, tried_order, tried_tile, tried_few}
use borrow.Author.Rules.{rules}
use Rattle.one_segment.proofs.add_segment.Goals as goal

pub guess-from-requires : goal.guess-from-requires
guess-from-requires c =
    let a = c.args in
    low_number a.w a.yt _ _ _ c.pick-low.ensures c.pick-high.ensures c.edgeless.ensures c.if-plain.true

pub guess-to-requires : goal.guess-to-requires
guess-to-requires c =
    let a = c.args in
    high_number a.w a.yt _ _ _ c.pick-low.ensures c.pick-high.ensures c.edgeless.ensures c.if-plain.true

pub add_few-requires : goal.add_few-requires
add_few-requires c =
    let a = c.args in
    let o = sym c.only-right.ensures ∙ c.if-right.true in (
      tried_order a.w a.yt _ _ _ c.pick-low.ensures c.pick-high.ensures c.edgeless.ensures c.if-plain.true _ _ o,
      tried_tile a.w a.yt _ _ _ c.pick-low.ensures c.pick-high.ensures c.edgeless.ensures c.if-plain.true _ _ o,
      search rules,
    )

pub returns-then-right : goal.returns-then-right
returns-then-right c =
    let a = c.args in
    let o = sym c.only-right.ensures ∙ c.if-right.true in
    tried_few a.w a.yt _ _ _ c.pick-low.ensures c.pick-high.ensures c.edgeless.ensures c.if-plain.true _ _ o _ _
    c.requires c.add_few.ensures
