use Rattle.svg_outline.proofs.Pieces.{shifted}
use Rattle.svg_outline.proofs.steps.Kind.many.Goals as goal

pub returns-in-Curved : goal.returns-in-Curved
returns-in-Curved c = rw c.in-Curved.is (shifted _ c.requires)
