-- `colours::layer::share` meets its contract. Assumes nothing.
use mathlib.Core.Path.{refl}
use Rattle.colours.specs.Layer.{share_of}
use Rattle.colours.proofs.layer.share.Goals as goal

pub returns : goal.returns
unfolding share_of
returns c = refl
