-- `float32::is_finite` meets its contract. Assumes nothing.
use Rattle.float32.proofs.Finite.{finite_is}
use Rattle.float32.proofs.is_finite.Goals as goal

pub returns : goal.returns
returns c = finite_is c.args.x
