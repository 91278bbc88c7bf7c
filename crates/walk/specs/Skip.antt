-- The skip rules, by the scaled ends: path_count.rs, lines 31 to 38 and 62 to 67. Definitions only.
use Rattle.std.specs.Prelude.{Bool, ◌&&◌, ◌||◌, eqb}
use Rattle.std.specs.Float.{binary32}
use Rattle.std.specs.Float.Ieee.{add, sub, lt, le, eq}
use Rattle.float32.specs.Meaning.{floor_of, min_of, abs_of}
use Rattle.util.specs.Constants.{zero}
use Rattle.util.specs.declared.Vec2.{Vec2}
use Rattle.panel.specs.declared.kinds.Path.{Path}
use Rattle.walk.specs.Num.{float}

-- a line that has no length, or lies along tiles' edges
unfoldable pub flat_of : Vec2 → Vec2 → Bool
flat_of s0 s1 =
    let dx = abs_of (sub binary32 s1.x s0.x) in
    let dy = sub binary32 s1.y s0.y in
    eq (add binary32 dx dy) zero || (eq dy zero && eq (floor_of s0.y) s0.y)

-- a line below, above or right of the box, or a box with no columns
unfoldable pub past_of : Vec2 → Vec2 → Path → Bool
past_of s0 s1 b =
    le (float b.y1) s0.y
    || (lt s1.y (float b.y0) || (le (float b.x1) (min_of s0.x s1.x) || eqb b.x1 b.x0))
