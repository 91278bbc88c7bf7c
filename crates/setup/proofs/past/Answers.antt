-- `setup::past` meets its contract. Assumes nothing.
use Rattle.walk.specs.Num.{float}
use Rattle.walk.specs.Skip.{past_of}
use Rattle.exact.proofs.Spans.{smaller_ge}
use Rattle.setup.proofs.past.Goals as goal

pub returns : goal.returns
unfolding past_of
returns c =
    rw (
      c.of_u32-bottom.ensures,
      c.of_u32-right.ensures,
      c.of_u32-top.ensures,
      c.pick-left.ensures,
      smaller_ge c.args.s0.x c.args.s1.x (float c.args.b.x1) c.requires.in_x,
    )
