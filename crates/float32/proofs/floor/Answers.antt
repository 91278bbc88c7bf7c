-- `float32::floor` meets its contract: near 0 by `floor_near`, and else by its bits. Assumes nothing.
use mathlib.Core.Path.{◌≡◌}
use mathlib.Core.Bool.{true, false, ◌&&◌}
use lib.Ieee.{Float, lt, neg, of_bits}
use Rattle.float32.specs.Inner.{limit, Within}
use Rattle.float32.proofs.Tests.{first, second}
use Rattle.float32.proofs.floor.Goals as goal

within : (x : Float) → (lt x (limit false) && lt (limit true) x) ≡ true → Within x
within x t = record { below = first (lt x (limit false)) (lt (limit true) x) t; above = second (lt x (limit false)) (lt (limit true) x) t }

pub floor_near-requires : goal.floor_near-requires
unfolding of_bits neg
floor_near-requires c = within c.args.x c.if-x.true
