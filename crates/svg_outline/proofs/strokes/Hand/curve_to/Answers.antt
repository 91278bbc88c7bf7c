use Rattle.svg_outline.proofs.Draws.{curve_room, curved_hand, curved_lines}
use Rattle.svg_outline.proofs.strokes.Hand.curve_to.Goals as goal

pub halve-at-requires : goal.halve-at-requires
halve-at-requires c = curve_room _ _ _ _ c.requires

pub returns : goal.returns
returns c =
    let a = c.args in (
      curved_hand a.self a.rel _ _ _ _ _ c.place_of-x2.ensures c.place_of-y2.ensures
          c.halve-at.ensures.0 c.moved.ensures,
      curved_lines a.self a.rel _ _ _ _ _ _ _ c.place_of-x1.ensures
          c.place_of-y1.ensures
          c.place_of-x2.ensures c.place_of-y2.ensures
          c.halve-at.ensures.1,
    )
