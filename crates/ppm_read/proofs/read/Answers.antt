-- `ppm_read::read` meets its contract: at each `return` the tests that led there say which case of
-- `read_of` holds. Assumes nothing.
use mathlib.Core.Path.{◌≡◌, ap, ◌∙◌}
use native.Mathlib.Omega.{arith}
use Rattle.std.specs.Prelude.{Option, Some, Result, Ok}
use Rattle.std.specs.Result.{result_ok}
use Rattle.std.proofs.lemmas.Result.{err_from_is_err_and}
use Rattle.panel.specs.declared.refusals.Refusal.TheVariants.{BadFile}
use Rattle.ppm_read.specs.Head.{NoHead}
use Rattle.ppm_write.proofs.Answers.{sides_of, area_most}
use Rattle.ppm_read.proofs.Answers.{at_most, none_read, size_read, raster_read, room_read, done_read}
use Rattle.ppm_read.proofs.read.Goals as goal

-- what the header's reading was, where `ok_or` gave a value
some : {A E : Type 0} (o : Option A) (r : Result A E) (x : A) → o ≡ result_ok r → r ≡ Ok x → o ≡ Some x
some o r x e f = e ∙ ap result_ok f

pub returns-in_err-width : goal.returns-in_err-width
returns-in_err-width c =
    let p = err_from_is_err_and c.from_residual.result c.from_residual.ensures.1 in
    let n : c.header.result ≡ NoHead = grind arith in
    let e : c.in_err-width.field-0.0 ≡ BadFile = grind arith in
    rw (p.1, p.2, e) (none_read c.args.file.now c.args.out.now _ c.header.ensures.0 n)

pub returns-then-not-side_ok : goal.returns-then-not-side_ok
returns-then-not-side_ok c =
    size_read c.args.file.now c.args.out.now _ c.header.ensures.0 c.in_ok-width.width
    c.in_ok-width.height c.in_ok-width.from (some _ _ _ c.ok_or.ensures.ok_part c.in_ok-width.was)
    (sides_of c.side_ok.ensures c.side_ok-2.ensures c.if-not-side_ok.true)

pub overflow_mul-size : goal.overflow_mul-size
overflow_mul-size c =
    omega (
      arith,
      area_most c.in_ok-width.width c.in_ok-width.height
          (sides_of c.side_ok.ensures c.side_ok-2.ensures c.if-not-side_ok.false),
    )

pub overflow_mul-size-2 : goal.overflow_mul-size-2
overflow_mul-size-2 c =
    omega (
      arith,
      area_most c.in_ok-width.width c.in_ok-width.height
          (sides_of c.side_ok.ensures c.side_ok-2.ensures c.if-not-side_ok.false),
    )

pub overflow_sub-file : goal.overflow_sub-file
overflow_sub-file c =
    at_most c.args.file.now _ c.in_ok-width.width c.in_ok-width.height
    c.in_ok-width.from c.header.ensures.1 (some _ _ _ c.ok_or.ensures.ok_part c.in_ok-width.was)

pub returns-then-file-from : goal.returns-then-file-from
returns-then-file-from c =
    raster_read c.args.file.now c.args.out.now _ c.header.ensures.0
    c.in_ok-width.width c.in_ok-width.height c.in_ok-width.from (some _ _ _ c.ok_or.ensures.ok_part c.in_ok-width.was)
    (sides_of c.side_ok.ensures c.side_ok-2.ensures c.if-not-side_ok.false) c.if-file-from.true

pub returns-then-out-size : goal.returns-then-out-size
returns-then-out-size c =
    room_read c.args.file.now c.args.out.now _ c.header.ensures.0
    c.in_ok-width.width c.in_ok-width.height c.in_ok-width.from (some _ _ _ c.ok_or.ensures.ok_part c.in_ok-width.was)
    (sides_of c.side_ok.ensures c.side_ok-2.ensures
    c.if-not-side_ok.false) c.if-file-from.false c.if-out-size.true

pub copy-requires : goal.copy-requires
copy-requires c =
    let i = at_most c.args.file.now _
    c.in_ok-width.width c.in_ok-width.height c.in_ok-width.from
    c.header.ensures.1 (some _ _ _ c.ok_or.ensures.ok_part c.in_ok-width.was) in
    (i, omega (arith, i, c.if-file-from.false, c.if-out-size.false))

pub returns : goal.returns
returns c =
    done_read c.args.file.now c.args.out.now _ c.header.ensures.0 c.in_ok-width.width c.in_ok-width.height c.in_ok-width.from (some _ _ _ c.ok_or.ensures.ok_part c.in_ok-width.was)
    (sides_of c.side_ok.ensures
    c.side_ok-2.ensures
    c.if-not-side_ok.false) c.if-file-from.false
    c.if-out-size.false _ c.copy.ensures
