-- How large a float is, as a fraction, and that it isn't negative. Definitions only.
use Rattle.std.specs.Prelude.{◌≡◌, false, ◌⊎◌, ℕ, ◌*◌, ◌^◌, ◌≤◌, Float}
use Rattle.std.specs.Float.{nan, inf, fin}
use Rattle.std.specs.Float.Ieee.{up, down}
use Rattle.std.specs.Float.Ieee.Exact.{HasValue}
use Rattle.float32.specs.Meaning.{sign_of}

-- a finite `f32` is a whole number of such parts of 1
unfoldable pub parts : ℕ
parts = 2 ^ 149

-- x has the sign plus, is finite, and is n parts
abbrev pub Is : Float → ℕ → Type 0
Is x n = HasValue x false n parts

-- x is finite, and p / c at most in size
abbrev pub AtMost : Float → ℕ → ℕ → Type 0
AtMost nan p c = ⊥
AtMost (inf s) p c = ⊥
AtMost (fin s m e) p c = m * up e * c ≤ p * down e

-- a zero, of either sign
abbrev pub Zero : Float → Type 0
Zero nan = ⊥
Zero (inf s) = ⊥
Zero (fin s m e) = m ≡ 0

-- not negative: the sign is plus, or it is a zero. A NaN counts as one with the sign plus.
abbrev pub Plus : Float → Type 0
Plus x = (sign_of x ≡ false) ⊎ Zero x
