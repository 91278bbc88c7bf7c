-- `segment::turn` meets its contract: the floats chosen one by one are those of the points chosen. Assumes nothing.
use mathlib.Core.Path.{◌≡◌, refl}
use mathlib.Core.Bool.{Bool, true, false, cond}
use lib.Ieee.{Float}
use Rattle.util.specs.declared.Vec2.{Vec2}
use Rattle.segment.specs.Clips.{make_of, off_of, turn_of}
use Rattle.segment.proofs.turn.Goals as goal

by_floats : (d : Bool) (p q : Vec2) (edge : Float)
    → make_of (cond d p.x q.x) (cond d p.y q.y) (cond d q.x p.x) (cond d q.y p.y) edge ≡ record { p0 = cond d p q; p1 = cond d q p; y_edge = edge }
unfolding make_of
by_floats true p q edge = refl
by_floats false p q edge = refl

pub returns : goal.returns
unfolding turn_of
returns c =
    let a = c.args in
    rw (
      c.make.ensures,
      c.pick-4.ensures,
      c.pick-3.ensures,
      c.pick-2.ensures,
      c.pick.ensures,
      c.off_whole-r1.ensures,
      c.off_whole-r0.ensures,
    )
    (by_floats a.is_down (off_of a.s.p0) (off_of a.s.p1) a.s.y_edge)
