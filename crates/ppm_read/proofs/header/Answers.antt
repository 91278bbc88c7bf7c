-- `ppm_read::header` meets its contract: the definition's reading, number by number, each by what the
-- code found. Assumes nothing.
use mathlib.Core.Path.{sym, ap, ◌∙◌}
use native.Mathlib.Omega.{arith}
use Rattle.ppm_read.specs.Held.{held_header}
use Rattle.ppm_read.proofs.Headers.{from_width, alike_width, alike_height, alike_most, number_then, header_none, header_some, most_wrong, most_right, at_within}
use Rattle.ppm_read.proofs.header.Goals as goal

pub returns-then-not-is_magic : goal.returns-then-not-is_magic
returns-then-not-is_magic c = (ap held_header (header_none c.args.file.now (sym c.is_magic.ensures ∙ c.if-not-is_magic.true)), tt)

pub returns-in_err-width : goal.returns-in_err-width
returns-in_err-width c = rw c.from_residual.ensures (
  (number_then c.args.file.now _ from_width _ _ _ alike_width c.read_number.ensures.0 (c.in_err-width.was)
      (ap held_header (header_some c.args.file.now (sym c.is_magic.ensures ∙ c.if-not-is_magic.false)))),
  tt,
)

pub returns-in_err-height : goal.returns-in_err-height
returns-in_err-height c = rw c.from_residual-in_err-height.ensures (
  (number_then c.args.file.now _ _ _ _ _ (alike_height _) c.read_number-2.ensures.0 (c.in_err-height.was)
      (number_then c.args.file.now _ from_width _ _ _ alike_width c.read_number.ensures.0
      (c.in_ok-width.was) (ap held_header
      (header_some c.args.file.now (sym c.is_magic.ensures ∙ c.if-not-is_magic.false))))),
  tt,
)

pub returns-in_err-most : goal.returns-in_err-most
returns-in_err-most c = rw c.from_residual-in_err-most.ensures (
  (number_then c.args.file.now _ _ _ _ _ (alike_most _ _) c.read_number-3.ensures.0 (c.in_err-most.was)
      (number_then c.args.file.now _ _ _ _ _ (alike_height _) c.read_number-2.ensures.0
      (c.in_ok-height.was) (number_then c.args.file.now _ from_width _ _ _ alike_width
      c.read_number.ensures.0
      (c.in_ok-width.was)
      (ap held_header (header_some c.args.file.now (sym c.is_magic.ensures ∙ c.if-not-is_magic.false)))))),
  tt,
)

pub returns-then-most-ne-LARGEST : goal.returns-then-most-ne-LARGEST
returns-then-most-ne-LARGEST c = (
  most_wrong c.args.file.now c.in_ok-width.width c.in_ok-height.height c.in_ok-most.most
      c.in_ok-most.c _ c.if-most-ne-LARGEST.true
      (number_then c.args.file.now _ _ _ _ _ (alike_most _ _) c.read_number-3.ensures.0
      (c.in_ok-most.was) (number_then c.args.file.now _ _ _ _ _ (alike_height _)
      c.read_number-2.ensures.0 (c.in_ok-height.was)
      (number_then c.args.file.now _ from_width _ _ _ alike_width
      c.read_number.ensures.0 (c.in_ok-width.was)
      (ap held_header (header_some c.args.file.now (sym c.is_magic.ensures ∙ c.if-not-is_magic.false)))))),
  tt,
)

pub overflow_add-result : goal.overflow_add-result
overflow_add-result c = omega (
  arith,
  at_within c.args.file.now _ _ _ c.read_number-3.ensures.1 (c.in_ok-most.was),
)

pub returns : goal.returns
returns c = (
  most_right c.args.file.now c.in_ok-width.width
      c.in_ok-height.height c.in_ok-most.most
      c.in_ok-most.c _ c.if-most-ne-LARGEST.false
      (number_then c.args.file.now _ _ _ _ _ (alike_most _ _) c.read_number-3.ensures.0 (c.in_ok-most.was)
      (number_then c.args.file.now _ _ _ _ _ (alike_height _) c.read_number-2.ensures.0
      (c.in_ok-height.was)
      (number_then c.args.file.now _ from_width _ _ _ alike_width c.read_number.ensures.0 (c.in_ok-width.was)
      (ap held_header (header_some c.args.file.now (sym c.is_magic.ensures ∙ c.if-not-is_magic.false)))))),
  omega (
    arith,
    at_within c.args.file.now _ _ _ c.read_number-3.ensures.1 (c.in_ok-most.was),
  ),
)
