-- `groatpocket::floats::gp_of_i32` meets its contract: the number is handed on by its bits. Assumes nothing.
use mathlib.Core.Path.{ap, ◌∙◌}
use lib.Ieee.{binary32, of_int}
use mir.Facts.{to_z-of_z}
use Rattle.groatpocket.proofs.floats.gp_of_i32.Goals as goal

pub returns : goal.returns
returns c = c.of_i32.ensures ∙ ap (of_int binary32) (to_z-of_z c.ranges.n)
