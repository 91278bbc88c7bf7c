use Rattle.svg_outline.proofs.Draws.{shut_room, shut_drawn, shut_none}
use Rattle.svg_outline.proofs.strokes.Hand.shut.Goals as goal

pub put-requires : goal.put-requires
put-requires c = shut_room c.args.self c.args.drawn _ c.if-drawn.true c.requires

pub returns-then-drawn : goal.returns-then-drawn
returns-then-drawn c =
    let a = c.args in
    shut_drawn a.self a.drawn _ _ _ c.if-drawn.true c.put.ensures

pub returns : goal.returns
returns c = shut_none c.args.self c.args.drawn _ c.if-drawn.false
