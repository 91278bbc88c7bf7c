-- `walk::choose::negative` meets its contract. A signed local holds bits, and `to_z-of_z` reads the number back. Assumes nothing.
use Prim.Native.Nat.{zero-le}
use mathlib.Core.Path.{◌≡◌, refl}
use lib.IntN.{ℤ, pos, negsuc}
use lib.Signed.{lt_z}
use mir.Facts.{to_z-of_z}
use borrow.Author.Tests.{le-ltb}
use Rattle.walk.specs.Num.{neg_of}
use Rattle.walk.proofs.choose.negative.Goals as goal

is : (v : ℤ) → lt_z v (pos 0) ≡ neg_of v
unfolding neg_of
is (pos n) = le-ltb n 0 zero-le
is (negsuc n) = refl

pub returns : goal.returns
returns c = rw (to_z-of_z c.ranges.v) (is c.args.v)
