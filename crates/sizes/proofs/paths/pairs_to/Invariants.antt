use mathlib.Core.Path.{◌≡◌}
use Rattle.sizes.specs.Words.{pairs_to}
use Rattle.sizes.proofs.paths.pairs_to.Given as goal

abbrev pub invariant-loop-k : goal.invariant-loop-k
invariant-loop-k l = l.pairs ≡ pairs_to l.paths l.cols l.rows l.k
