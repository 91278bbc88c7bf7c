-- `last_colour::put_each` meets its contract. Assumes nothing.
use mathlib.Core.List.{[]}
use lib.ListN.{get_or}
use lib.Ieee.{nan}
use borrow.Author.Rules.{rules}
use Rattle.colours.specs.Colour.{over_of}
use Rattle.screen_rows.proofs.Places.{by_colours}
use Rattle.last_colour.specs.Last.{from_each}
use Rattle.last_colour.proofs.put_each.Goals as goal

pub returns : goal.returns
returns c =
    let a = c.args in
    let p = c.requires in
    c.put_words.ensures (from_each a.area.now a.fg a.rgba.now a.width)
    (by_colours a.width a.tx a.ty a.y p.2 p.3 (λ k. over_of a.fg (get_or a.area.now k nan) (get_or a.rgba.now k [])) _ (λ x v h given. search rules))
