-- `ppm_write::put_number` meets its contract: the digits of a number's tenth, and one more. Assumes nothing.
use native.Mathlib.Omega.{arith}
use Rattle.ppm_write.proofs.Decimal.{length_one, length_more}
use Rattle.ppm_write.proofs.Puts.{put_one, put_more, put_length}
use Rattle.ppm_write.proofs.+put_number.Goals as goal

pub bounds-out-at : goal.bounds-out-at
bounds-out-at t c = omega (arith, length_one c.args.n c.if-n-lt-TEN.true)

pub returns-then-n-lt-TEN : goal.returns-then-n-lt-TEN
returns-then-n-lt-TEN t c = put_one _ _ _ c.if-n-lt-TEN.true

pub put_number-last-requires : goal.put_number-last-requires
put_number-last-requires t c = (omega (arith, c.decreases), omega (arith, length_more c.args.n c.if-n-lt-TEN.false))

pub bounds-out-last : goal.bounds-out-last
bounds-out-last t c =
    let put = c.put_number-last.ensures in
    omega (arith, length_more c.args.n c.if-n-lt-TEN.false, put_length put, put.place)

pub overflow_add-result-2 : goal.overflow_add-result-2
overflow_add-result-2 t c =
    omega (arith, length_more c.args.n c.if-n-lt-TEN.false, c.put_number-last.ensures.place)

pub returns : goal.returns
returns t c = put_more _ _ _ _ _ c.if-n-lt-TEN.false c.put_number-last.ensures
