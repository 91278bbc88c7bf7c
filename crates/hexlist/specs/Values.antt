-- What a word of 32 bits stands for. Definitions only.
use Rattle.std.specs.Prelude.{ℕ, ◌-◌, Bool, cond, ltb, eqb, ℤ, pos, negsuc, Float}
use Rattle.std.specs.Float.{binary32}
use Rattle.std.specs.Float.Ieee.{to_bits, nan_bits, is_nan}

-- whether x has the bits w; any NaN has those of any NaN
abbrev pub is_float : Float → ℕ → Bool
is_float x w = cond (is_nan x) (nan_bits binary32 w) (eqb (to_bits binary32 x) w)

-- the number with a sign that has the bits w: two's complement, so 2 ^ 32 - 1 is -1
abbrev pub int_of : ℕ → ℤ
int_of w = cond (ltb w 2147483648) (pos w) (negsuc (4294967295 - w))

-- whether n has the bits w
abbrev pub is_int : ℤ → ℕ → Bool
is_int (pos n) w = eqb n w
is_int (negsuc n) w = eqb n (4294967295 - w)
