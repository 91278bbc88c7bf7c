-- `float32::clamp` meets its contract: each arm returns what the definition's choices pick. Assumes nothing.
use Rattle.float32.specs.Meaning.{clamp_of}
use Rattle.float32.proofs.clamp.Goals as goal

pub returns-then-x-lo : goal.returns-then-x-lo
unfolding clamp_of
returns-then-x-lo c = rw (c.if-lo-hi.true, c.if-x-lo.true)

pub returns-then-hi-x : goal.returns-then-hi-x
unfolding clamp_of
returns-then-hi-x c = rw (c.if-lo-hi.true, c.if-x-lo.false, c.if-hi-x.true)

pub returns-else-hi-x : goal.returns-else-hi-x
unfolding clamp_of
returns-else-hi-x c = rw (c.if-lo-hi.true, c.if-x-lo.false, c.if-hi-x.false)

pub returns-else-lo-hi : goal.returns-else-lo-hi
unfolding clamp_of
returns-else-lo-hi c = rw c.if-lo-hi.false
