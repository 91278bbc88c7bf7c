-- `short_lines::put_tried` meets its contract, case by case. Assumes nothing.
use mathlib.Core.Path.{refl}
use Rattle.short_lines.proofs.put_tried.Goals as goal

pub returns-in_default : goal.returns-in_default
returns-in_default c = rw c.in_default.is (refl, refl)

pub returns : goal.returns
returns c = rw c.in-Some.is c.put_short.ensures
