-- `outlines::same_bits` meets its contract: what equals something is no NaN, and has bits. Assumes nothing.
use mathlib.Core.Path.{◌≡◌}
use mathlib.Core.Bool.{true, not, false≢true}
use lib.Dec.{T}
use lib.Ieee.{Float, nan, inf, fin, eq, is_nan}
use Rattle.outlines.specs.Outlines.{same_bits}
use Rattle.outlines.proofs.same_bits.Goals as goal

eq_right : (x y : Float) → eq x y ≡ true → T (not (is_nan y))
unfolding eq is_nan
eq_right nan y h = absurd (false≢true h)
eq_right (inf s) nan h = absurd (false≢true h)
eq_right (inf s) (inf t) h = tt
eq_right (inf s) (fin t n d) h = tt
eq_right (fin s m e) nan h = absurd (false≢true h)
eq_right (fin s m e) (inf t) h = tt
eq_right (fin s m e) (fin t n d) h = tt

pub float_to_bits-result-then-x-y : goal.float_to_bits-result-then-x-y
float_to_bits-result-then-x-y c = let s = c.args in eq_right s.x s.y c.if-x-y.true

pub returns-then-x-y : goal.returns-then-x-y
unfolding same_bits
returns-then-x-y c = rw c.if-x-y.true

pub returns-else-x-y : goal.returns-else-x-y
unfolding same_bits
returns-else-x-y c = rw c.if-x-y.false
