-- `colours::layer::level` meets its contract: equal floats of one sign are the same. Assumes nothing.
use mathlib.Core.Path.{sym, ◌∙◌}
use Rattle.float32.proofs.Same.{same_sign}
use Rattle.float32.proofs.Tests.{yes}
use Rattle.colours.proofs.layer.level.Goals as goal

pub returns : goal.returns
returns c = λ e. same_sign c.args.a c.args.v (yes c.well_formed.0.1) (yes c.well_formed.1.0.1) e (c.requires.0 ∙ sym c.requires.1)
