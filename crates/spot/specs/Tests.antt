-- The tests by which a line is found within one tile. Only proofs lean on this: no promise of a public call does. Definitions only.
use Rattle.std.specs.Prelude.{◌≡◌, ℕ, ◌+◌, Bool, cond, not, ◌&&◌, T, from_bits, is_nan, to_bits, Float}
use Rattle.std.specs.Float.{binary32}
use Rattle.std.specs.Float.Ieee.{add, sub, lt, le}
use Rattle.util.specs.Constants.{half, one}
use Rattle.panel.specs.Kinds.{tile_no_of}
use Rattle.panel.specs.Paths.{tile_of}
use Rattle.panel.specs.declared.kinds.Path.{Path}
use Rattle.whole.specs.Bits.{zero_bits}
use Rattle.walk.specs.Step.{Within}
use Rattle.spot.specs.Place.{Spot}
use Rattle.spot.specs.Place.{In, Other}
use Rattle.spot.specs.declared.Stretch.{Stretch}

-- 3 * 2 ^ 22, from which on the floats are the whole numbers; and 2 ^ -20
abbrev pub shift : Float
shift = from_bits binary32 zero_bits

abbrev pub short : Float
short = from_bits binary32 0x3580_0000

-- s, less a half, at that number
abbrev pub shifted_of : Float → Float
shifted_of s = add binary32 (sub binary32 s half) shift

-- from the smaller of u and v to the larger
abbrev pub stretch_of : Float → Float → Stretch
stretch_of u v = record { least = cond (lt v u) v u; most = cond (lt v u) u v }

-- it lies between the whole number that t is above the shift, and the next
abbrev pub between_of : Float → Stretch → Bool
between_of t g = lt (sub binary32 t shift) g.least && lt g.most (add binary32 (sub binary32 t shift) one)

-- two stretches that aren't both too short
abbrev pub long_of : Stretch → Stretch → Bool
long_of g h = le short (add binary32 (sub binary32 g.most g.least) (sub binary32 h.most h.least))

abbrev pub held_of : (tx ty : Float) → Stretch → Stretch → Bool
held_of tx ty g h = (between_of tx g && between_of ty h) && long_of g h

-- the tile in column x and row y of the box b is that which tx and ty are above the shift
pub record At (tx ty : Float) (b : Path) (x y : ℕ) : Type 0 where
  pub within : Within b x y
  pub column : to_bits binary32 tx ≡ zero_bits + x
  pub row : to_bits binary32 ty ≡ zero_bits + y

abbrev pub AtMet : Float → Float → Path → Spot → Type 0
AtMet tx ty b (In t x y) = (t ≡ tile_no_of (tile_of b x y)) × At tx ty b x y
AtMet tx ty b Other = Unit {0}

-- a number that has bits
abbrev pub Real : Float → Type 0
Real t = T (not (is_nan t))
