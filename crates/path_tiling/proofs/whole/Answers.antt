-- `path_tiling::whole` meets its contract. Assumes nothing.
use mathlib.Core.Path.{refl}
use Rattle.path_tiling.specs.Tiling.{whole_of}
use Rattle.path_tiling.proofs.whole.Goals as goal

pub returns : goal.returns
unfolding whole_of
returns c = refl
