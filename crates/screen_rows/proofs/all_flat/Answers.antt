-- `screen_rows::all_flat` meets its contract. Assumes nothing.
use mathlib.Core.Path.{refl}
use Rattle.screen_rows.specs.Rows.{all_flat}
use Rattle.screen_rows.proofs.all_flat.Goals as goal

pub returns : goal.returns
unfolding all_flat
returns c = refl
