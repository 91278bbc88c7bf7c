-- `walk::choose::inside` meets its contract. A signed local holds bits, and `to_z-of_z` reads the number back. Assumes nothing.
use mathlib.Core.Path.{◌≡◌, refl}
use mathlib.Core.Bool.{◌&&◌, not}
use Prim.Native.Nat.{ℕ}
use lib.Dec.{leb, ltb}
use lib.IntN.{ℤ, pos, negsuc}
use mir.Facts.{to_z-of_z}
use Rattle.walk.specs.Num.{cut_of, neg_of, inside_of}
use Rattle.walk.proofs.choose.inside.Goals as goal

is : (v : ℤ) (lo hi : ℕ) → (not (neg_of v) && (leb lo (cut_of v) && ltb (cut_of v) hi)) ≡ inside_of v lo hi
unfolding inside_of neg_of cut_of
is (pos n) lo hi = refl
is (negsuc n) lo hi = refl

pub returns : goal.returns
returns c =
    cc (to_z-of_z c.ranges.v, is c.args.v c.args.lo c.args.hi)
