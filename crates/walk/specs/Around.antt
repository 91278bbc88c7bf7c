-- The edges of the columns and rows that a line is in, as whole numbers taken once: how the code sets a line up. Only proofs lean on this: no
-- promise of a public call does. Definitions only.
use Rattle.std.specs.Prelude.{ℕ, ◌+◌, ◌-◌, ◌≤◌, ◌≡◌, false, cond, T, Float}
use Rattle.std.specs.Float.{binary32}
use Rattle.std.specs.Float.Ieee.{sub, lt, to_unsigned, in_unsigned}
use Rattle.float32.specs.Meaning.{floor_of, ceil_of}
use Rattle.util.specs.Constants.{one}
use Rattle.util.specs.declared.Vec2.{Vec2}
use Rattle.exact.specs.Reach.{coord_tiles}
use Rattle.walk.specs.Setup.{Scaled}
use Rattle.walk.specs.declared.kinds.Counts.{Counts}

-- the smaller and the larger of a and b, no NaN among them
abbrev pub least_of : Float → Float → Float
least_of a b = cond (lt b a) b a

abbrev pub last_of : Float → Float → Float
last_of a b = cond (lt a b) b a

-- how far it is from the edge `low` to the edge `high`, at least one tile; and in whole tiles
abbrev pub apart_of : (low high : Float) → Float
apart_of low high = cond (lt (sub binary32 high low) one) one (sub binary32 high low)

abbrev pub tiles_of : (low high : Float) → ℕ
tiles_of low high = to_unsigned 32 (apart_of low high)

-- edges of a checked line: the tiles between them are cast without loss, and few
pub record Spans (low high : Float) : Type 0 where
  pub exact : T (in_unsigned binary32 32 (apart_of low high))
  pub some : 1 ≤ tiles_of low high
  pub few : tiles_of low high ≤ coord_tiles + coord_tiles

-- count_x and count, by the edges
unfoldable pub counts_by : (left right top bottom : Float) → Counts
counts_by left right top bottom =
    let count_x_lem = tiles_of left right - 1 in
    record { count_x = count_x_lem; count = count_x_lem + tiles_of top bottom }

-- the edges around a checked line from s0 to s1; s1 is no higher than s0
pub record Around (s0 s1 : Vec2) (left right top bottom : Float) : Type 0 where
  pub start : Scaled s0
  pub end : Scaled s1
  pub ordered : lt s1.y s0.y ≡ false
  pub at_left : left ≡ floor_of (least_of s0.x s1.x)
  pub at_right : right ≡ ceil_of (last_of s0.x s1.x)
  pub at_top : top ≡ floor_of s0.y
  pub at_bottom : bottom ≡ ceil_of (last_of s0.y s1.y)
