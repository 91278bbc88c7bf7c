-- `colours::layer::mix` meets its contract. Assumes nothing.
use mathlib.Core.Path.{refl}
use Rattle.colours.specs.Layer.{mix_of}
use Rattle.colours.proofs.layer.mix.Goals as goal

pub returns : goal.returns
unfolding mix_of
returns c = refl
