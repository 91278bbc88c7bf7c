-- `float32::to_i32` meets its contract: a whole number near 0 by what a shift leaves (`Magic.antt`), and else by its bits. Assumes nothing.
use mathlib.Core.Path.{◌≡◌, ◌∙◌}
use mathlib.Core.Bool.{true, false, ◌&&◌}
use lib.Dec.{T}
use lib.Ieee.{Float, binary32, lt, eq, neg, of_bits, in_signed, to_signed}
use lib.Ieee.Casts.{to_signed_in}
use mir.Syntax.{w32}
use mir.Facts.{to_z-of_z}
use Rattle.float32.proofs.Tests.{first, second}
use Rattle.float32.specs.Inner.{limit}
use Rattle.float32.proofs.Magic.{near, near_cast}
use Rattle.float32.proofs.to_i32.Goals as goal

cast : (x : Float) → (eq x (near x) && (lt x (limit false) && lt (limit true) x)) ≡ true → T (in_signed binary32 31 (near x)) × (to_signed 31 (near x) ≡ to_signed 31 x)
cast x t =
    let l = second (eq x (near x)) (lt x (limit false) && lt (limit true) x) t in
    near_cast x (first (eq x (near x)) (lt x (limit false) && lt (limit true) x) t) (first (lt x (limit false)) (lt (limit true) x) l) (second (lt x (limit false)) (lt (limit true) x) l)

pub float_to_int-result : goal.float_to_int-result
unfolding of_bits neg
float_to_int-result c = (cast c.args.x c.if-x-r.true).0

pub returns-then-x-r : goal.returns-then-x-r
unfolding of_bits neg
returns-then-x-r c = let x = c.args.x in to_z-of_z {w = w32} (record { sfits = to_signed_in 31 (near x) }) ∙ (cast x c.if-x-r.true).1
