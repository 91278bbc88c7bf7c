-- A line's ends in tiles, the upper one first, by which of its points that is. Assumes nothing.
use mathlib.Core.Path.{◌≡◌, refl}
use mathlib.Core.Bool.{Bool, true, false, cond, not}
use lib.Ieee.{le}
use Rattle.util.specs.Constants.{tile_scale}
use Rattle.util.specs.Vec.{scale_of}
use Rattle.util.specs.declared.Vec2.{Vec2}
use Rattle.walk.specs.Setup.{ends_of}

-- whether the second point is no higher
abbrev pub down : Vec2 → Vec2 → Bool
down p0 p1 = le p0.y p1.y

turned : (p0 p1 : Vec2) (t : Bool) → cond (not t) p1 p0 ≡ cond t p0 p1
turned p0 p1 true = refl
turned p0 p1 false = refl

pub upper_end : (p0 p1 : Vec2) → scale_of (cond (not (down p0 p1)) p1 p0) tile_scale ≡ (ends_of p0 p1).s0
unfolding ends_of
upper_end p0 p1 = rw (turned p0 p1 (down p0 p1)) refl

pub lower_end : (p0 p1 : Vec2) → scale_of (cond (down p0 p1) p1 p0) tile_scale ≡ (ends_of p0 p1).s1
unfolding ends_of
lower_end p0 p1 = refl
