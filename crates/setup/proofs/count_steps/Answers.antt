-- `setup::count_steps` meets its contract. Assumes nothing.
use native.Mathlib.Omega.{arith}
use Rattle.exact.proofs.Limits.{far}
use Rattle.walk.specs.Around.{counts_by}
use Rattle.setup.proofs.count_steps.Goals as goal

pub span-count_x-requires : goal.span-count_x-requires
span-count_x-requires c = c.requires.0

pub overflow_sub-count_x : goal.overflow_sub-count_x
overflow_sub-count_x c = omega (arith, c.span-count_x.ensures, c.requires.0.some)

pub span-requires : goal.span-requires
span-requires c = c.requires.1

pub overflow_add-count : goal.overflow_add-count
overflow_add-count c =
    omega (arith, far.tiles, c.span.ensures, c.span-count_x.ensures, c.requires.0.few, c.requires.1.few)

pub returns : goal.returns
unfolding counts_by
returns c = rw (c.span.ensures, c.span-count_x.ensures)
