-- z - z is zero exactly where z is finite: a test with no bits in it. Assumes nothing.
use Prim.Native.Nat.{ℕ, ◌*◌, ◌-◌, ◌<◌}
use native.Mathlib.Nat.{mul-pos}
use native.Mathlib.Omega.{arith}
use mathlib.Core.Path.{◌≡◌, refl}
use mathlib.Core.Bool.{Bool, true, false, not}
use lib.Dec.{lit<}
use lib.Ieee.{Float, nan, inf, fin, binary32, up, down, sub, sum, of_bits, eq}
use lib.Ieee.Fits.{down_pos}
use lib.Ieee.Scale.{finite, round_same}
use borrow.Author.Tests.{le-ltb}

zero_diff : (s : Bool) (a c : ℕ) → 0 < c → eq (sum binary32 s a (not s) a c) (of_bits binary32 0) ≡ true
unfolding sum eq of_bits
zero_diff true a c C = rw (le-ltb a a (omega arith), round_same binary32 false (a - a) c 0 1 C (lit< tt) (omega arith))
zero_diff false a c C = rw (le-ltb a a (omega arith), round_same binary32 false (a - a) c 0 1 C (lit< tt) (omega arith))

pub finite_is : (z : Float) → eq (sub binary32 z z) (of_bits binary32 0) ≡ finite z
unfolding sub eq
finite_is nan = refl
finite_is (inf true) = refl
finite_is (inf false) = refl
finite_is (fin s m e) = zero_diff s (m * up e * down e) (down e * down e) (mul-pos (down_pos e) (down_pos e))
