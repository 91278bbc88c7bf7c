-- `float32::is_whole` meets its contract: near 0 by what a shift leaves (`Magic.antt`), and else by the floor itself. Assumes nothing.
use mathlib.Core.Path.{◌≡◌, ap}
use mathlib.Core.Bool.{true, false, ◌&&◌}
use lib.Dec.{T}
use lib.Ieee.{Float, binary32, fits, lt, eq, neg, of_bits}
use Rattle.float32.specs.Meaning.{floor_of}
use Rattle.float32.proofs.Tests.{yes, first, second}
use Rattle.float32.specs.Inner.{limit}
use Rattle.float32.proofs.Magic.{near, whole_near}
use Rattle.float32.proofs.is_whole.Goals as goal

beside : (x : Float) → T (fits binary32 x) → (lt x (limit false) && lt (limit true) x) ≡ true → eq x (near x) ≡ eq x (floor_of x)
beside x h t = whole_near x h (first (lt x (limit false)) (lt (limit true) x) t) (second (lt x (limit false)) (lt (limit true) x) t)

pub returns-then-x : goal.returns-then-x
unfolding of_bits neg
returns-then-x c = beside c.args.x (yes c.well_formed.0.1) c.if-x.true

pub returns-else-x : goal.returns-else-x
returns-else-x c = ap (λ (y : Float). eq c.args.x y) c.floor_far.ensures
