-- `backdrop::backdrop_checked` meets its contract: the checks of the paths have passed. Assumes nothing.
use mathlib.Core.Path.{sym, ◌∙◌}
use native.Mathlib.Omega.{arith}
use lib.ListN.{length}
use Rattle.panel.proofs.PathLaws.{checked}
use Rattle.backdrop.proofs.PathSums.{call_done}
use Rattle.backdrop.proofs.backdrop_checked.Goals as goal

pub overflow_cast-paths : goal.overflow_cast-paths
overflow_cast-paths c =
    record { fits = omega (arith, (checked c.args.paths.now (length c.args.backdrops.now) c.requires).few) }

pub returns : goal.returns
returns c =
    c.sum_paths.ensures ∙ sym (call_done c.args.paths.now c.args.backdrops.now c.requires)
