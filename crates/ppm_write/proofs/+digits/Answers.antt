-- `ppm_write::digits` meets its contract: a number below ten has one digit, and any other has one more than its tenth. Assumes nothing.
use native.Mathlib.Omega.{arith}
use mathlib.Core.Path.{sym}
use Prim.Native.Nat.{◌/◌}
use Rattle.ppm_write.specs.Bytes.{ten}
use Rattle.ppm_write.proofs.Decimal.{length_one, length_more, decimal_short}
use Rattle.ppm_write.proofs.+digits.Goals as goal

pub returns-then-n-lt-TEN : goal.returns-then-n-lt-TEN
returns-then-n-lt-TEN t c = sym (length_one c.args.n c.if-n-lt-TEN.true)

pub overflow_add-result : goal.overflow_add-result
overflow_add-result t c = record { fits = omega (arith, c.digits.ensures, decimal_short (c.args.n / ten)) }

pub returns : goal.returns
returns t c = omega (arith, c.digits.ensures, length_more c.args.n c.if-n-lt-TEN.false)
