use Rattle.svg_outline.proofs.Draws.{turn_room, turn_drew}
use Rattle.svg_outline.proofs.strokes.Hand.turn.Goals as goal

pub draw-requires : goal.draw-requires
draw-requires c =
    let a = c.args in
    turn_room a.depth a.g a.self a.t c.act-k.result c.held-next.result c.relative.result _ c.act-k.ensures
    c.held-next.ensures c.relative.ensures c.requires

pub returns : goal.returns
returns c =
    let a = c.args in
    turn_drew a.depth a.g a.self a.t c.act-k.result c.held-next.result
    c.relative.result _ _ _ c.act-k.ensures c.held-next.ensures
    c.relative.ensures c.draw.ensures
