-- `is_word` of a float meets its contract. Assumes nothing.
use mathlib.Core.Path.{sym, ◌∙◌}
use lib.Ieee.{binary32}
use lib.Ieee.Bits.{nan_bits_above}
use Rattle.hexlist.proofs.words.F32Element.is_word.Goals as goal

pub returns-then-is_nan : goal.returns-then-is_nan
returns-then-is_nan c = rw (sym c.is_nan.ensures.value ∙ c.if-is_nan.true) (sym (nan_bits_above binary32 c.args.w))

pub returns-else-is_nan : goal.returns-else-is_nan
returns-else-is_nan c = rw (sym c.is_nan.ensures.value ∙ c.if-is_nan.false)
