-- `segment::hold` meets its contract: a tile's edges are in order, so what is at least the near one and then at most the far one is what lies between. Assumes
-- nothing.
use Rattle.segment.proofs.Holds.{held_is}
use Rattle.segment.proofs.hold.Goals as goal

pub returns : goal.returns
returns c =
    let a = c.args in
    rw (c.pick.ensures, c.pick-above.ensures) (held_is a.v a.t)
