-- `float32::ceil` meets its contract: it is `floor` with the signs turned. Assumes nothing.
use mathlib.Core.Path.{ap, ◌∙◌}
use lib.Ieee.{neg}
use Rattle.float32.proofs.Magic.{ceil_turned}
use Rattle.float32.proofs.ceil.Goals as goal

pub returns : goal.returns
returns c = ap neg c.floor.ensures ∙ ceil_turned c.args.x
