-- `short_lines::moved` meets its contract: the test, in the definition's terms, is its first part. Assumes nothing.
use mathlib.Core.Path.{refl}
use Rattle.short_lines.specs.Short.{seen_of}
use Rattle.short_lines.proofs.moved.Goals as goal

pub returns-then-held : goal.returns-then-held
unfolding seen_of
returns-then-held c = (
  rw (
    c.held.ensures,
    c.held-2.ensures,
    c.off_whole-r0.ensures,
    c.off_whole-r1.ensures,
  ) at c.if-held.true,
  rw (c.make.ensures, c.off_whole-r0.ensures, c.off_whole-r1.ensures) refl,
)
