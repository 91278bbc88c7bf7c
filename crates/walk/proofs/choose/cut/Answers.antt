-- `walk::choose::cut` meets its contract. Assumes nothing.
use Prim.Native.Nat.{ℕ, suc, zero, ◌<◌}
use native.Mathlib.Omega.{arith}
use mathlib.Core.Path.{◌≡◌, refl}
use lib.IntN.{ℤ, pos, negsuc}
use lib.Signed.{mag}
use borrow.Author.Tests.{lt-ltb}
use mir.Syntax.{w32}
use mir.Val.{Fits}
use mir.Facts.{to_z-of_z}
use Rattle.std.specs.Int.{int_max}
use Rattle.walk.specs.Num.{cut_of}
use Rattle.walk.proofs.choose.cut.Goals as goal
use Rattle.walk.proofs.choose.cut.Goals.{After-max}

most : (v : ℤ) → int_max v (pos 0) ≡ pos (cut_of v)
unfolding cut_of
most (pos zero) = refl
most (pos (suc n)) = rw (lt-ltb 0 (suc n) (omega arith))
most (negsuc n) = refl

is : (c : After-max) → c.max.result ≡ pos (cut_of c.args.v)
is c = rw (to_z-of_z c.ranges.v, most c.args.v) at c.max.ensures.value

below : (z : ℤ) (n : ℕ) → z ≡ pos n → mag z < 2147483648 → Fits w32 n
below z n e h = let l : n < 2147483648 = rw e at h in record { fits = omega arith }

pub overflow_cast-result : goal.overflow_cast-result
overflow_cast-result c =
    rw (to_z-of_z {w = w32} {z = c.max.result} (record { sfits = c.max.type_inv }), is c) (tt, below _ _ (is c) c.max.type_inv)

pub returns : goal.returns
returns c = rw (to_z-of_z {w = w32} {z = c.max.result} (record { sfits = c.max.type_inv }), is (goal.at.returns c).After-max) refl
