-- `panel::refs::pack` meets its contract. Assumes nothing.
use mathlib.Core.Path.{refl}
use Rattle.panel.specs.Widths.{step_range}
use borrow.Author.Rules.{rules}
use Rattle.panel.proofs.refs.pack.Goals as goal

pub overflow_mul-result : goal.overflow_mul-result
unfolding step_range
overflow_mul-result c = search rules

pub overflow_add-result : goal.overflow_add-result
unfolding step_range
overflow_add-result c = search rules

pub returns : goal.returns
unfolding step_range
returns c = refl
