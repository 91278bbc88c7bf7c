-- `segment::off_whole` meets its contract: where the end stays, what is taken off is 0, and that leaves an `f32` as it is. Assumes nothing.
use mathlib.Core.Path.{◌≡◌, refl}
use mathlib.Core.Bool.{Bool, true, false, cond, ◌&&◌}
use lib.Dec.{T}
use lib.Ieee.{Float, binary32, sub, fits, of_bits, eq, ne}
use Rattle.float32.specs.Meaning.{floor_of}
use Rattle.float32.proofs.Tests.{yes}
use Rattle.float32.proofs.Same.{sub-zero}
use Rattle.util.specs.Constants.{zero, epsilon}
use Rattle.segment.specs.Clips.{off_of}
use Rattle.segment.proofs.off_whole.Goals as goal

moved : (b : Bool) (x : Float) → T (fits binary32 x) → sub binary32 x (cond b epsilon zero) ≡ cond b (sub binary32 x epsilon) x
unfolding of_bits
moved true x h = refl
moved false x h = sub-zero x h

pub returns : goal.returns
unfolding off_of
returns c =
    let x = c.args.p.x in
    rw (
      c.new.ensures,
      c.pick-by.ensures,
      c.is_whole.ensures,
      moved (eq x (floor_of x) && ne x zero) x (yes c.well_formed.0.1.1.0.1),
    )
    refl
