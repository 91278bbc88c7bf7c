-- `float32::of_i32` meets its contract: by the size and the sign. Assumes nothing.
use mir.Facts.{to_z-of_z}
use Rattle.float32.proofs.Ints.{minus_int, plus_int}
use Rattle.float32.proofs.of_i32.Goals as goal

pub returns-then-n-lt0 : goal.returns-then-n-lt0
returns-then-n-lt0 c = rw (c.of_u32-size.ensures, c.size_of.ensures, to_z-of_z c.ranges.n)
    (minus_int c.args.n (rw (to_z-of_z c.ranges.n) at c.if-n-lt0.true))

pub returns-else-n-lt0 : goal.returns-else-n-lt0
returns-else-n-lt0 c = rw (c.of_u32-size.ensures, c.size_of.ensures, to_z-of_z c.ranges.n)
    (plus_int c.args.n (rw (to_z-of_z c.ranges.n) at c.if-n-lt0.false))
