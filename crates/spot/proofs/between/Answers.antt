-- `spot::between` meets its contract. Assumes nothing.
use Rattle.std.proofs.Common.{refl}
use Rattle.spot.proofs.between.Goals as goal

pub returns : goal.returns
returns c = refl
