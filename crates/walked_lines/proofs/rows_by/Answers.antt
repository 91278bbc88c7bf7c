-- `walked_lines::rows_by` meets its contract.
-- Assumes nothing.
use mathlib.Core.Path.{refl}
use Rattle.walked_lines.proofs.rows_by.Goals as goal

pub returns : goal.returns
returns c = refl
