-- `panel::paths::path_at` meets its contract.
-- Assumes nothing.
use mathlib.Core.Path.{refl}
use Rattle.panel.specs.Paths.{path_at}
use Rattle.panel.proofs.paths.path_at.Goals as goal

pub returns : goal.returns
unfolding path_at
returns c = refl
