-- Small whole numbers are floats exactly. Assumes nothing.
use Prim.Native.Nat.{ℕ, ◌<◌, ◌^◌}
use native.Mathlib.Omega.{arith}
use lib.Dec.{T, le→leb}
use lib.IntN.{pos}
use lib.Ieee.{binary32, in_float}
use Rattle.sides.specs.Tile.{tile_size}

-- a pixel's row or column is a float exactly
pub small : (n : ℕ) → n < tile_size → T (in_float binary32 (pos n))
unfolding in_float
small n h = le→leb n (2 ^ 24) (omega arith)
