-- `last_colour::put_slope` meets its contract. Assumes nothing.
use lib.ListN.{get_or}
use lib.Ieee.{nan}
use borrow.Author.Rules.{rules}
use Rattle.colours.specs.Colour.{over_of}
use Rattle.screen_rows.proofs.Places.{by_colours}
use Rattle.last_colour.specs.Last.{from_one}
use Rattle.last_colour.proofs.put_slope.Goals as goal

pub returns : goal.returns
returns c =
    let a = c.args in
    let p = c.requires in
    c.put_words.ensures (from_one a.area.now a.fg a.one a.width)
    (by_colours a.width a.tx a.ty a.y p.2 p.3 (λ k. over_of a.fg (get_or a.area.now k nan) a.one) _ (λ x v h given. search rules))
