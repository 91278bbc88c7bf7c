-- `setup::incline` meets its contract. Assumes nothing.
use lib.Ieee.{binary32, add, le}
use Rattle.float32.specs.Meaning.{floor_of}
use Rattle.util.specs.Constants.{one}
use Rattle.walk.specs.Setup.{slope_of}
use Rattle.walk.proofs.AroundLaws.{column, same_row, off_is}
use Rattle.setup.proofs.incline.Goals as goal

pub returns : goal.returns
unfolding slope_of
returns c =
    rw (
      c.pick-ytop.ensures,
      c.pick-xt0.ensures,
      c.pick-sign.ensures,
      c.across-dx.ensures,
      column c.args.s0 c.args.s1 c.requires,
      c.requires.at_top,
      c.requires.at_bottom,
      same_row c.args.s0.y c.args.s1.y (add binary32 (floor_of c.args.s0.y) one),
      off_is (le c.args.s0.x c.args.s1.x),
    )
