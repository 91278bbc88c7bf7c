-- What the function looks at, a stage each, for its parts' own contracts. Only proofs lean on this: no promise of a public call does. Definitions only.
use Rattle.std.specs.Prelude.{Bool, cond, ◌&&◌}
use Rattle.std.specs.Float.Ieee.{lt, le, eq}
use Rattle.util.specs.declared.Vec2.{Vec2}
use Rattle.walk.specs.Setup.{counts_of, slope_of, a_of, b_of}
use Rattle.walk.specs.Skip.{flat_of}
use Rattle.walk.specs.Around.{least_of, last_of}
use Rattle.box_edges.specs.declared.Edges.{Edges}
use Rattle.walk.specs.declared.kinds.Pace.{Pace}
use Rattle.inside.specs.Found.{Inside}
use Rattle.inside.specs.Found.{In, Other}

-- both ends lie within the edges, and none is a NaN; a line along the right edge, or from the bottom edge on, does not
unfoldable pub in_edges_of : Vec2 → Vec2 → Edges → Bool
in_edges_of s0 s1 g =
    let left = least_of s0.x s1.x in
    let right = last_of s0.x s1.x in
    ((le g.left left && lt left g.right) && (le right g.right && le s1.x g.right))
    && ((le g.top s0.y && lt s0.y g.bottom) && le s1.y g.bottom)

-- the pace of the walk from s0 to s1
unfoldable pub pace_of : Vec2 → Vec2 → Pace
pace_of s0 s1 =
    let m = slope_of s0 s1 in
    let b = b_of m s0 in
    record { a = a_of m (counts_of s0 s1) b; b = b; x0 = m.x0; y0 = m.y0; sign = m.sign; on_top = eq m.y0 s0.y }

-- and its steps, but of a line that is skipped
unfoldable pub paced_of : Vec2 → Vec2 → Inside
paced_of s0 s1 = cond (flat_of s0 s1) Other (In (pace_of s0 s1) (counts_of s0 s1).count)
