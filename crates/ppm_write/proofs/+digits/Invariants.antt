-- The recursion of `digits` ends: the number falls. Assumes nothing.
use Rattle.ppm_write.proofs.+digits.Given as goal

abbrev pub decreases-digits : goal.decreases-digits
decreases-digits l = l.n
