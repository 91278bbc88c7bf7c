-- `ppm_write::put_head` meets its contract: "P6" and a newline, then three fields. Assumes nothing.
use native.Mathlib.Omega.{arith}
use lib.ListN.{length-set}
use Rattle.ppm_write.specs.Bytes.{blank, newline, largest}
use Rattle.ppm_write.specs.File.{head_of}
use Rattle.ppm_write.proofs.Puts.{put_then, put_magic, put_length, field_length, largest_length, head_length}
use Rattle.ppm_write.proofs.put_head.Goals as goal

pub bounds-out-0 : goal.bounds-out-0
bounds-out-0 c = omega (arith, head_length c.args.width c.args.height)

pub bounds-out-1 : goal.bounds-out-1
bounds-out-1 c = simp length-set (omega (arith, head_length c.args.width c.args.height))

pub bounds-out-2 : goal.bounds-out-2
bounds-out-2 c = simp length-set (omega (arith, head_length c.args.width c.args.height))

pub put_field-a-requires : goal.put_field-a-requires
put_field-a-requires c =
    simp length-set (omega (arith, head_length c.args.width c.args.height, field_length c.args.width blank))

pub put_field-b-requires : goal.put_field-b-requires
put_field-b-requires c =
    let one = c.put_field-a.ensures in
    let all = put_length (put_then (put_magic c.args.out.now) one) in
    omega (
      arith,
      head_length c.args.width c.args.height,
      field_length c.args.width blank,
      field_length c.args.height newline,
      one.place,
      all,
    )

pub put_field-requires : goal.put_field-requires
put_field-requires c =
    let one = c.put_field-a.ensures in
    let two = c.put_field-b.ensures in
    let all = put_length (put_then (put_then (put_magic c.args.out.now) one) two) in
    omega (
      arith,
      head_length c.args.width c.args.height,
      field_length c.args.width blank,
      field_length c.args.height newline,
      field_length largest newline,
      largest_length,
      one.place,
      two.place,
      all,
    )

pub returns : goal.returns
unfolding head_of
returns c =
    put_then
    (put_then (put_then (put_magic _) c.put_field-a.ensures)
    c.put_field-b.ensures)
    c.put_field.ensures

pub shape_of-out : goal.shape_of-out
shape_of-out c = put_length (returns c)
