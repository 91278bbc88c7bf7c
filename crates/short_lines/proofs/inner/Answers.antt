-- `short_lines::inner` meets its contract. Assumes nothing.
use mathlib.Core.Path.{refl}
use Rattle.short_lines.specs.Short.{inner_of}
use Rattle.short_lines.proofs.inner.Goals as goal

pub returns : goal.returns
unfolding inner_of
returns c = refl
