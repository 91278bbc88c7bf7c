use mathlib.Core.Path.{◌≡◌}
use mathlib.Core.Bool.{false}
use lib.ListN.{drop}
use Rattle.ppm_read.specs.declared.Stage.TheVariants.{Start}
use Rattle.ppm_read.specs.Header.{number_from}
use Rattle.ppm_read.specs.Held.{held_got}
use Rattle.ppm_read.proofs.read_number.Given as goal

abbrev pub invariant-loop-at : goal.invariant-loop-at
invariant-loop-at l =
    held_got (number_from l.comment l.stage (drop l.at l.file)) ≡ held_got (number_from false Start (drop l.from l.file))
