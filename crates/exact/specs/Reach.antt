-- A coordinate that passes the check (docs/RULES.md, refusal 6), and what the walk first makes of it. Definitions only.
use Rattle.std.specs.Prelude.{◌≡◌, Bool, cond, ℕ, ◌+◌, ◌/◌, ◌≤◌, T, ℤ, nat_abs, Float}
use Rattle.std.specs.Float.{binary32}
use Rattle.std.specs.Float.Ieee.{add, mul, le, fits}
use Rattle.float32.specs.Meaning.{unit, floor_of, abs_of}
use Rattle.util.specs.Constants.{zero, one, minus_one, tile_scale}
use Rattle.panel.specs.Limits.{coord_most, coord_whole}
use Rattle.exact.specs.Whole.{IsWhole, Small}

-- finite, and of magnitude at most the limit: no comparison holds of a NaN, and an infinity is over it
abbrev pub in_reach : Float → Bool
in_reach x = le (abs_of x) coord_most

-- in tiles
abbrev pub scaled : Float → Float
scaled p = mul binary32 p tile_scale

-- the largest coordinate, in whole tiles
unfoldable pub coord_tiles : ℕ
coord_tiles = coord_whole / 16

-- what is known of such a coordinate in tiles
pub record Near (s : Float) : Type 0 where
  pub few : Small s coord_tiles
  pub fit : T (fits binary32 s)

-- 1 or -1, by whether x rises; the first column, and the first row, of a line that starts at s
abbrev pub sign_at : Bool → Float
sign_at rises = cond rises one minus_one

abbrev pub x0_at : Bool → Float → Float
x0_at rises s = add binary32 (mul binary32 (floor_of (mul binary32 s (sign_at rises))) (sign_at rises)) (cond rises zero minus_one)

-- a line's numbers: sign is 1 or -1, and x0 and y0 are whole and small
pub record Starts (sign x0 y0 : Float) : Type 0 where
  pub turned : Bool
  pub x0n : ℤ
  pub y0n : ℤ
  pub sign_is : sign ≡ unit turned
  pub x0_whole : IsWhole x0 x0n
  pub y0_whole : IsWhole y0 y0n
  pub x0_small : nat_abs x0n ≤ coord_tiles + 1
  pub y0_small : nat_abs y0n ≤ coord_tiles
