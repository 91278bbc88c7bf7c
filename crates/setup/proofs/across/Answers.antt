-- `setup::across` meets its contract. Assumes nothing.
use Rattle.exact.proofs.Bounds.{near_finite}
use Rattle.walk.proofs.Apart.{apart_is}
use Rattle.setup.proofs.across.Goals as goal

pub returns : goal.returns
returns c =
    rw (c.pick-last.ensures, c.pick-least.ensures) (apart_is c.args.a c.args.b (near_finite c.args.a c.requires.0) (near_finite c.args.b c.requires.1))
