-- `float32::to_u32` meets its contract: a whole number near 0 by what a shift leaves (`Magic.antt`), and else by its bits. Assumes nothing.
use mathlib.Core.Path.{◌≡◌}
use mathlib.Core.Bool.{true, false, ◌&&◌}
use lib.Dec.{T}
use lib.IntN.{pos}
use lib.Ieee.{Float, fin, binary32, lt, eq, of_bits, in_unsigned, to_unsigned}
use Rattle.float32.proofs.Tests.{first, second}
use Rattle.float32.specs.Inner.{limit}
use Rattle.float32.proofs.Magic.{near, near_count}
use Rattle.float32.proofs.to_u32.Goals as goal

cast : (x : Float) → (eq x (near x) && (lt x (limit false) && lt (fin false 0 (pos 0)) x)) ≡ true → T (in_unsigned binary32 32 (near x)) × (to_unsigned 32 (near x) ≡ to_unsigned 32 x)
cast x t =
    let l = second (eq x (near x)) (lt x (limit false) && lt (fin false 0 (pos 0)) x) t in
    near_count x (first (eq x (near x)) (lt x (limit false) && lt (fin false 0 (pos 0)) x) t) (first (lt x (limit false)) (lt (fin false 0 (pos 0)) x) l)
    (second (lt x (limit false)) (lt (fin false 0 (pos 0)) x) l)

pub float_to_int-result : goal.float_to_int-result
unfolding of_bits
float_to_int-result c = (cast c.args.x c.if-x-r.true).0

pub returns-then-x-r : goal.returns-then-x-r
unfolding of_bits
returns-then-x-r c = (cast c.args.x c.if-x-r.true).1
