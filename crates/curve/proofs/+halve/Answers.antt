-- `curve::halve` meets its contract: one line at depth 0, and deeper the lines of both halves. Assumes nothing.
use Rattle.curve.proofs.Sets.{zero_next, zero_done, falls_to, room, room_after, next_is, done_is}
use Rattle.curve.proofs.+halve.Goals as goal

pub halve-next-requires : goal.halve-next-requires
halve-next-requires t c = (falls_to _ _ c.if-depth-eq0.false c.decreases, room _ _ _ c.if-depth-eq0.false c.requires)

pub halve-requires : goal.halve-requires
halve-requires t c =
    let next = c.halve-next.ensures in
    (falls_to _ _ c.if-depth-eq0.false c.decreases, room_after _ _ _ _ _ _ c.if-depth-eq0.false c.requires next.0 next.1)

pub returns-then-depth-eq0 : goal.returns-then-depth-eq0
returns-then-depth-eq0 t c =
    let put = c.put.ensures in
    (zero_next _ _ _ c.if-depth-eq0.true put.0, zero_done _ _ _ _ _ c.if-depth-eq0.true put.1)

pub returns-else-depth-eq0 : goal.returns-else-depth-eq0
returns-else-depth-eq0 t c =
    let next = c.halve-next.ensures in
    let last = c.halve.ensures in (
      next_is _ _ _ _ c.if-depth-eq0.false next.0 last.0,
      done_is _ _ _ _ _ _ _ _ _ c.if-depth-eq0.false c.halves.ensures.left c.halves.ensures.right next.0 next.1 last.1,
    )
