-- What is said of a summed area. Definitions only.
use Rattle.std.specs.Prelude.{◌≡◌, ◌⊎◌, false, ℕ, negsuc, Float}
use Rattle.std.specs.Float.{nan, fin, binary32}
use Rattle.std.specs.Float.Ieee.{sub, lt}
use Rattle.float32.specs.Meaning.{abs_of}
use Rattle.panel.specs.declared.segments.Segment.{Segment}
use Rattle.exact.specs.Whole.{Small}

-- x is a NaN, or finite and N at most in size: never infinite
abbrev pub Tame : Float → ℕ → Type 0
Tame x N = (x ≡ nan) ⊎ Small x N

-- a segment at least 2 ^ -100 high, in the difference of its ends' y as an `f32`
abbrev pub least_height : Float
least_height = fin false 1 (negsuc 99)

abbrev pub High : Segment → Type 0
High s = lt (abs_of (sub binary32 s.p1.y s.p0.y)) least_height ≡ false
