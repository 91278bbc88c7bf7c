-- The bits of a float from 2 ^ 23 to 2 ^ 24, by the whole number that it is above or below 3 * 2 ^ 22. Definitions only.
use Rattle.std.specs.Prelude.{ℕ, suc, ◌+◌, ◌-◌, ℤ, pos, negsuc}

-- the bits of 3 * 2 ^ 22
abbrev pub zero_bits : ℕ
zero_bits = 0x4b40_0000

-- zero_bits + n, of an n that is no further below 0 than that
unfoldable pub bits_of : ℤ → ℕ
bits_of (pos n) = zero_bits + n
bits_of (negsuc n) = zero_bits - suc n
