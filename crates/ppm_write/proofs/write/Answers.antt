-- `ppm_write::write` meets its contract: at each `return` the tests that led there say which case of
-- `write_of` holds. Assumes nothing.
use native.Mathlib.Omega.{arith}
use Rattle.ppm_write.proofs.Decimal.{decimal_short}
use Rattle.ppm_write.proofs.Puts.{put_length, head_length, raster_length}
use Rattle.ppm_write.proofs.Answers.{sides_of, area_most, file_length, size_refused, number_refused, room_refused, written}
use Rattle.ppm_write.proofs.write.Goals as goal

pub returns-then-not-side_ok : goal.returns-then-not-side_ok
returns-then-not-side_ok c =
    size_refused _ _ _ _ (sides_of c.side_ok.ensures c.side_ok-2.ensures c.if-not-side_ok.true)

pub overflow_mul-width : goal.overflow_mul-width
overflow_mul-width c =
    omega (
      arith,
      area_most c.args.width c.args.height
          (sides_of c.side_ok.ensures c.side_ok-2.ensures c.if-not-side_ok.false),
    )

pub returns-then-pixels-width : goal.returns-then-pixels-width
returns-then-pixels-width c = number_refused _ _ _ _ (sides_of c.side_ok.ensures c.side_ok-2.ensures c.if-not-side_ok.false) c.if-pixels-width.true

pub overflow_add-size : goal.overflow_add-size
overflow_add-size c = omega (arith, c.digits.ensures, decimal_short c.args.width)

pub overflow_add-size-2 : goal.overflow_add-size-2
overflow_add-size-2 c =
    let a = c.args in
    omega (
      arith,
      c.digits.ensures,
      c.digits-2.ensures,
      decimal_short a.width,
      decimal_short a.height,
    )

pub overflow_add-size-3 : goal.overflow_add-size-3
overflow_add-size-3 c =
    let a = c.args in
    omega (
      arith,
      c.digits.ensures,
      c.digits-2.ensures,
      decimal_short a.width,
      decimal_short a.height,
      c.if-pixels-width.false,
      area_most a.width a.height (sides_of c.side_ok.ensures
          c.side_ok-2.ensures c.if-not-side_ok.false),
    )

pub returns-then-out-size : goal.returns-then-out-size
returns-then-out-size c =
    let a = c.args in
    room_refused _ _ _ _ (sides_of c.side_ok.ensures
    c.side_ok-2.ensures c.if-not-side_ok.false)
    c.if-pixels-width.false
    (omega (
      arith,
      file_length a.pixels.now a.width a.height,
      c.digits.ensures,
      c.digits-2.ensures,
      c.if-out-size.true,
    ))

pub put_head-at-requires : goal.put_head-at-requires
put_head-at-requires c =
    let a = c.args in
    omega (
      arith,
      head_length a.width a.height,
      c.digits.ensures,
      c.digits-2.ensures,
      c.if-out-size.false,
    )

pub put_pixels-requires : goal.put_pixels-requires
put_pixels-requires c =
    let a = c.args in
    let head = c.put_head-at.ensures in
    omega (
      arith,
      head_length a.width a.height,
      raster_length a.pixels.now,
      c.digits.ensures,
      c.digits-2.ensures,
      c.if-out-size.false,
      head.place,
      put_length head,
    )

pub returns : goal.returns
returns c =
    let a = c.args in
    written _ _ _ _ (sides_of c.side_ok.ensures c.side_ok-2.ensures
    c.if-not-side_ok.false)
    c.if-pixels-width.false
    (omega (
      arith,
      file_length a.pixels.now a.width a.height,
      c.digits.ensures,
      c.digits-2.ensures,
      c.if-out-size.false,
    ))
    _
    _
    _
    _
    c.put_head-at.ensures
    c.put_pixels.ensures
