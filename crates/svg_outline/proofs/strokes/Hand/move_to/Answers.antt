use Rattle.svg_outline.proofs.Draws.{moved_to}
use Rattle.svg_outline.proofs.strokes.Hand.move_to.Goals as goal

pub returns : goal.returns
returns c =
    let a = c.args in (
      moved_to a.self a.rel a.drawn _ _ _ _ c.shut-at.ensures.0 c.place_of-x.ensures c.place_of-y.ensures
          c.moved.ensures,
      c.shut-at.ensures.1,
    )
