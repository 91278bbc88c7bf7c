-- Vec2's operators, as util.rs has them: each component by itself, rounded once. Definitions only.
use Rattle.std.specs.Prelude.{Float}
use Rattle.std.specs.Float.{binary32}
use Rattle.std.specs.Float.Ieee.{add, sub, mul}
use Rattle.util.specs.declared.Vec2.{Vec2}

abbrev pub new_of : Float → Float → Vec2
new_of x y = record { x = x; y = y }

abbrev pub add_of : Vec2 → Vec2 → Vec2
add_of p q = record { x = add binary32 p.x q.x; y = add binary32 p.y q.y }

abbrev pub sub_of : Vec2 → Vec2 → Vec2
sub_of p q = record { x = sub binary32 p.x q.x; y = sub binary32 p.y q.y }

abbrev pub scale_of : Vec2 → Float → Vec2
scale_of p k = record { x = mul binary32 p.x k; y = mul binary32 p.y k }
