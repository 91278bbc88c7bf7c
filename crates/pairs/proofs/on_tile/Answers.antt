-- `pairs::on_tile` meets its contract. Assumes nothing.
use mathlib.Core.Path.{sym, ap, ◌∙◌}
use lib.IntN.{ℤ}
use mir.Syntax.{w32}
use mir.Val.{of_z}
use Rattle.commands.specs.Pixel.{even_odd_of}
use Rattle.pairs.specs.Pairs.{covers}
use Rattle.float32.proofs.Turned.{back}
use Rattle.pairs.proofs.Signed.{cast_bits}
use Rattle.pairs.proofs.PairLaws.{on_fill, on_solid, on_none}
use Rattle.pairs.proofs.on_tile.Goals as goal

pub returns-then-count-gt0 : goal.returns-then-count-gt0
returns-then-count-gt0 c =
    let a = c.args in
    rw c.flipped.ensures (on_fill a.colour a.rule a.count a.stored a.b c.cast_unsigned.result c.if-count-gt0.true
    (c.cast_unsigned.ensures ∙ ap (of_z w32) (back a.b c.ranges.b) ∙ cast_bits a.b))

pub returns-then-covers : goal.returns-then-covers
returns-then-covers c =
    let a = c.args in
    on_solid a.colour a.rule a.count a.stored a.b c.if-count-gt0.false
    (ap (λ (z : ℤ). covers (even_odd_of a.rule) z) (sym (back a.b c.ranges.b)) ∙ sym c.covers.ensures ∙ c.if-covers.true)

pub returns : goal.returns
returns c =
    let a = c.args in
    on_none a.colour a.rule a.count a.stored a.b c.if-count-gt0.false
    (ap (λ (z : ℤ). covers (even_odd_of a.rule) z) (sym (back a.b c.ranges.b)) ∙ sym c.covers.ensures ∙ c.if-covers.false)
