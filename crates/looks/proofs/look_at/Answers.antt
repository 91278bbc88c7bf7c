-- `looks::look_at` meets its contract, case by case. Assumes nothing.
use mathlib.Core.Path.{ap, ◌∙◌}
use native.Mathlib.Omega.{arith}
use Rattle.std.proofs.Common.{Ok}
use Rattle.panel.proofs.LimitLaws.{step_read, slice_read}
use Rattle.walk.specs.Walked.{walked_told}
use Rattle.looks.specs.Look.{step_no, found_to}
use Rattle.looks.proofs.LookLaws.{line_fits}
use Rattle.looks.proofs.CarryLaws.{line_zs, line_at_lem}
use Rattle.looks.proofs.look_at.Goals as goal

pub look_line-requires : goal.look_line-requires
look_line-requires c =
    let inner = rw c.in-Ok-Some.is at c.in-Ok-Some.field-0-is in
    let told = ap walked_told (c.in-Ok-Some.is ∙ ap Ok inner) in
    let fits = line_fits told c.requires.0 in
    let has = line_zs told (step_no c.args.packed) (step_read c.args.packed) c.requires.1 in
    (has.0, rw c.slice_of.ensures (slice_read c.args.packed (omega arith)), fits.0, fits.1, fits.2, has.1)

pub returns-in-Err : goal.returns-in-Err
unfolding found_to
returns-in-Err c = rw c.in-Err.is

pub returns-in-Ok-None : goal.returns-in-Ok-None
unfolding found_to
returns-in-Ok-None c =
    let inner = rw c.in-Ok-None.is at c.in-Ok-None.field-0-is in
    rw (c.in-Ok-None.is, inner)

pub returns-in-Ok-Some : goal.returns-in-Ok-Some
unfolding found_to
returns-in-Ok-Some c =
    let inner = rw c.in-Ok-Some.is at c.in-Ok-Some.field-0-is in
    let told = ap walked_told (c.in-Ok-Some.is ∙ ap Ok inner) in
    rw (c.in-Ok-Some.is, inner, c.look_line.ensures, line_at_lem c.args.s told (step_no c.args.packed) c.requires.1, c.slice_of.ensures)
