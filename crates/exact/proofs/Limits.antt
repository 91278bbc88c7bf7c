-- The one law by which the limits of docs/RULES.md come into the laws of floats: each stays far under 2 ^ 24, up to which an `f32` holds every whole number.
-- Where a limit moves, this is what has to hold again. Assumes nothing.
use mathlib.Core.Path.{◌≡◌, refl}
use mathlib.Core.Bool.{false}
use Prim.Native.Nat.{ℕ, ◌*◌, ◌^◌, ◌≤◌}
use lib.Dec.{lit≤}
use lib.Ieee.{binary32, of_bits, round}
use Rattle.float32.specs.Meaning.{whole}
use Rattle.panel.specs.Limits.{coord_most, coord_whole, edge_most}
use Rattle.panel.specs.Widths.{step_range}
use Rattle.exact.specs.Reach.{coord_tiles}

-- the coordinate's limit is a whole number of tiles, of 16 each; it, the box edges' and the step numbers that a reference holds are at most 2 ^ 20. No
-- box reaches further than a coordinate
pub record Far : Type 0 where
  pub coord : coord_most ≡ whole false (coord_tiles * 16)
  pub some : 1 ≤ coord_tiles
  pub tiles : coord_tiles ≤ 2 ^ 20
  pub edge : edge_most ≤ 2 ^ 20
  pub reach : edge_most ≤ coord_tiles
  pub steps : step_range ≤ 2 ^ 20

pub far : Far
unfolding coord_tiles coord_most coord_whole edge_most step_range of_bits round
far = record { coord = refl; some = lit≤ tt; tiles = lit≤ tt; edge = lit≤ tt; reach = lit≤ tt; steps = lit≤ tt }
