-- `narrow::left_column` meets its contract: the larger of a float and 0 is a number. Assumes nothing.
use mathlib.Core.Path.{sym, subst}
use mathlib.Core.Bool.{not}
use lib.Dec.{T}
use lib.Ieee.{Float, is_nan, of_bits}
use Rattle.util.specs.Constants.{half}
use Rattle.rounded.proofs.Numbers.{less_number}
use Rattle.rounded.proofs.Cuts.{from_zero_number}
use Rattle.narrow.proofs.left_column.Goals as goal

pub guess-i-requires : goal.guess-i-requires
guess-i-requires c = less_number _ half (subst (λ (z : Float). T (not (is_nan z))) (sym c.from_zero-left.ensures) (from_zero_number _)) (unfold of_bits in tt)
