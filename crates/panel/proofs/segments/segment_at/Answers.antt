-- `panel::segments::segment_at` meets its contract. Assumes nothing.
use mathlib.Core.Path.{refl}
use Rattle.panel.specs.Segments.{segment_at}
use Rattle.panel.proofs.segments.segment_at.Goals as goal

pub returns : goal.returns
unfolding segment_at
returns c = refl
