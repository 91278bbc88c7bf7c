-- A channel's byte, by the laws of `rounded`: it is below 256, and the bits of two sums tell it. Assumes nothing.
use mathlib.Core.Path.{◌≡◌}
use Prim.Native.Nat.{◌<◌}
use lib.Dec.{T}
use lib.Ieee.{Float, binary32, fits}
use Rattle.rounded.proofs.Nearest.{cut_small}
use Rattle.rounded.proofs.ByShift as ByShift
use Rattle.rounded.proofs.ByShift.{Lifted, scaled}
use Rattle.colours.specs.Colour.{byte_many, byte_of}

pub byte_small : (v : Float) → byte_of v < byte_many
unfolding byte_of
byte_small v = cut_small v

pub lifted : (v x : Float) → T (fits binary32 v) → x ≡ scaled v → Lifted (byte_of v) x
unfolding byte_of
lifted v x h e = ByShift.lifted v x h e
