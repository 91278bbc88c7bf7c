-- The recursion of `halve` ends: the depth falls. Assumes nothing.
use Rattle.curve.proofs.+halve.Given as goal

abbrev pub decreases-halve : goal.decreases-halve
decreases-halve l = l.depth
