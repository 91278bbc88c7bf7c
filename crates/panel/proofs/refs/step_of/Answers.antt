-- `panel::refs::step_of` meets its contract. Assumes nothing.
use mathlib.Core.Path.{refl}
use Rattle.panel.specs.Widths.{step_range}
use Rattle.panel.proofs.refs.step_of.Goals as goal

pub returns : goal.returns
unfolding step_range
returns c = refl
