-- `panel::lines::line_at` meets its contract. Assumes nothing.
use mathlib.Core.Path.{refl}
use Rattle.panel.specs.Lines.{line_at}
use Rattle.panel.proofs.lines.line_at.Goals as goal

pub returns : goal.returns
unfolding line_at
returns c = refl
