-- `screen_rows::put_row` meets its contract. Assumes nothing.
use mathlib.Core.List.{[]}
use lib.ListN.{get_or}
use borrow.Author.Rules.{rules}
use Rattle.screen_rows.specs.Rows.{from_list}
use Rattle.screen_rows.proofs.Places.{by_colours}
use Rattle.screen_rows.proofs.put_row.Goals as goal

pub returns : goal.returns
returns c =
    let a = c.args in
    let p = c.requires in
    c.put_words.ensures (from_list a.rgba.now a.width)
    (by_colours a.width a.tx a.ty a.y p.2 p.3 (λ k. get_or a.rgba.now k []) _ (λ x v h given. search rules))
