-- `on_pixels::same_area` meets its contract. Assumes nothing.
use mathlib.Core.Path.{refl}
use Rattle.commands.specs.Alike.{same_area}
use Rattle.on_pixels.proofs.same_area.Goals as goal

pub returns : goal.returns
unfolding same_area
returns c = refl
