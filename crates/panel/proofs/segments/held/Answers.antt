-- `panel::segments::held` meets its contract. Assumes nothing.
use mathlib.Core.Path.{refl}
use Rattle.panel.specs.Segments.{held_of}
use Rattle.panel.proofs.segments.held.Goals as goal

pub returns : goal.returns
unfolding held_of
returns c = refl
