use Rattle.svg_outline.proofs.Draws.{to_line}
use Rattle.svg_outline.proofs.strokes.Hand.line_to.Goals as goal

pub returns : goal.returns
returns c = (to_line c.args.self _ _ _ _ c.moved.ensures c.put-at.ensures.0, c.put-at.ensures.1)
