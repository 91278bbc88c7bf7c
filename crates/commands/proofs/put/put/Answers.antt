-- `commands::put::put` meets its contract. Assumes nothing.
use native.Mathlib.Omega.{arith}
use Rattle.commands.proofs.Encoded.{put_over}
use Rattle.commands.proofs.put.put.Goals as goal

pub returns : goal.returns
returns g c = put_over _ _ _ _ _ c.requires c.copy_from_slice.ensures.after (omega arith)
