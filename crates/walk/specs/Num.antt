-- Whole numbers as floats, and floats as whole numbers from 0 up. Definitions only.
use Rattle.std.specs.Prelude.{ℕ, Bool, true, false, ◌&&◌, ℤ, pos, negsuc, Float}
use Rattle.std.specs.Int.Signed.{le_z, lt_z}
use Rattle.std.specs.Float.{binary32}
use Rattle.std.specs.Float.Ieee.{of_int, to_signed}

-- a whole number as a float: nearest, ties to even, and exact up to 2 ^ 24
abbrev pub float : ℕ → Float
float n = of_int binary32 (pos n)

-- the number, or 0 where it is below 0
unfoldable pub cut_of : ℤ → ℕ
cut_of (pos n) = n
cut_of (negsuc n) = 0

unfoldable pub neg_of : ℤ → Bool
neg_of (pos n) = false
neg_of (negsuc n) = true

-- lo <= v < hi
unfoldable pub inside_of : ℤ → ℕ → ℕ → Bool
inside_of v lo hi = le_z (pos lo) v && lt_z v (pos hi)

-- `as i32`, and 0 where that is below 0
unfoldable pub row_of : Float → ℕ
row_of v = cut_of (to_signed 31 v)
