use mathlib.Core.Path.{◌≡◌}
use lib.ListN.{drop}
use Rattle.svg_path.specs.declared.State.TheVariants.{Start}
use Rattle.svg_path.specs.Machine.{verdict_of}
use Rattle.svg_path.proofs.check.Given as goal

abbrev pub invariant-loop-i : goal.invariant-loop-i
invariant-loop-i l = verdict_of l.q l.i (drop l.i l.s) ≡ verdict_of Start 0 l.s
