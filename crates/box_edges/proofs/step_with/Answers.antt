-- `box_edges::step_with` meets its contract: what passes the tests by floats is in the box, and its column and row are whole. Assumes nothing.
use mathlib.Core.Path.{◌∙◌}
use native.Mathlib.Omega.{arith}
use lib.Ieee.{to_signed}
use Rattle.exact.proofs.Limits.{far}
use Rattle.walk.proofs.Counts.{in_float_lem}
use Rattle.walk.proofs.Boxes.{ok_told, told_within, tile_yes, tile_no}
use Rattle.box_edges.proofs.Sides.{x_at, y_at, Passed, step_passed, step_failed, step_is}
use Rattle.box_edges.proofs.step_with.Goals as goal
use Rattle.box_edges.proofs.step_with.Goals.{Then-x-g}

pub int_to_float-f : goal.int_to_float-f
int_to_float-f c = in_float_lem c.args.i (omega (arith, c.requires.1, far.steps))

-- the column and the row that passed
told : (c : Then-x-g) → let z = c.args.z in Passed c.args.b (x_at c.args.p z)
    (y_at c.args.p c.args.i z) z
told c =
    step_passed c.args.p c.requires.2 c.args.b c.requires.0 c.args.i c.requires.1 c.args.g c.requires.3
    c.args.z
    c.requires.4 c.if-x-g.true

pub float_to_int-col : goal.float_to_int-col
float_to_int-col c = (told (goal.at.float_to_int-col c).Then-x-g).col_can

pub float_to_int-row : goal.float_to_int-row
float_to_int-row c = (told (goal.at.float_to_int-row c).Then-x-g).row_can

pub tile_at-requires : goal.tile_at-requires
tile_at-requires c =
    let z = c.args.z in
    let x = to_signed 31 (x_at c.args.p z) in
    let y = to_signed 31 (y_at c.args.p c.args.i z) in
    let w = told_within c.args.b x y z (ok_told c.args.b x y z (told (goal.at.tile_at-requires c).Then-x-g).ok) in
    (c.requires.0, rw ((told (goal.at.tile_at-requires c).Then-x-g).col_is, (told (goal.at.tile_at-requires c).Then-x-g).row_is) w)

pub returns-then-x-g : goal.returns-then-x-g
returns-then-x-g c =
    let z = c.args.z in
    rw (c.tile_at.ensures, (told (goal.at.returns-then-x-g c).Then-x-g).col_is, (told (goal.at.returns-then-x-g c).Then-x-g).row_is)
    (tile_yes c.args.b (to_signed 31 (x_at c.args.p z)) (to_signed 31 (y_at c.args.p c.args.i z)) z (told (goal.at.returns-then-x-g c).Then-x-g).ok
    ∙ step_is c.args.p c.requires.2 c.args.b c.requires.0 c.args.i c.requires.1 c.args.g c.requires.3 z c.requires.4)

pub returns-else-x-g : goal.returns-else-x-g
returns-else-x-g c =
    let z = c.args.z in
    let e = c.requires.4 in
    tile_no c.args.b (to_signed 31 (x_at c.args.p z)) (to_signed 31 (y_at c.args.p c.args.i z)) z
    (step_failed c.args.p c.requires.2 c.args.b c.requires.0 c.args.i c.requires.1 c.args.g c.requires.3 z e c.if-x-g.false)
    ∙ step_is c.args.p c.requires.2 c.args.b c.requires.0 c.args.i c.requires.1 c.args.g c.requires.3 z e
