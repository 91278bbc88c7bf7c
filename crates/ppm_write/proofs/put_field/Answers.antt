-- `ppm_write::put_field` meets its contract: a number's stores, then one store. Assumes nothing.
use native.Mathlib.Omega.{arith}
use Rattle.ppm_write.proofs.Puts.{put_then, put_byte, put_length, field_length}
use Rattle.ppm_write.proofs.put_field.Goals as goal

pub put_number-last-requires : goal.put_number-last-requires
put_number-last-requires c = omega (arith, field_length c.args.n c.args.after)

pub bounds-out-last : goal.bounds-out-last
bounds-out-last c =
    let put = c.put_number-last.ensures in
    omega (arith, field_length c.args.n c.args.after, put.place, put_length put)

pub overflow_add-result : goal.overflow_add-result
overflow_add-result c =
    let put = c.put_number-last.ensures in
    omega (arith, field_length c.args.n c.args.after, put.place)

pub returns : goal.returns
returns c = put_then c.put_number-last.ensures (put_byte _ _ _)
