-- `clip::leave` meets its contract. Assumes nothing.
use Rattle.clip.specs.Clip.{leave_of}
use Rattle.clip.proofs.leave.Goals as goal

pub returns-then-w : goal.returns-then-w
unfolding leave_of
returns-then-w c = rw (c.if-w.true, c.min-imax.ensures, c.to_u32-i.ensures)

pub returns : goal.returns
unfolding leave_of
returns c = rw (c.if-w.false, c.max-imin.ensures, c.to_u32-i.ensures)
