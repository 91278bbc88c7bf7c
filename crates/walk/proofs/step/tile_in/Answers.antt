-- `walk::step::tile_in` meets its contract: a tile that passes the tests lies in the box, so its number is one of the path's. Assumes nothing.
use mathlib.Core.Path.{◌≡◌}
use mathlib.Core.Bool.{true}
use mir.Facts.{to_z-of_z}
use Rattle.walk.proofs.Boxes.{ok_of, ok_told, told_within, tile_yes, tile_no}
use Rattle.walk.proofs.step.tile_in.Goals as goal
use Rattle.walk.proofs.step.tile_in.Goals.{Then-ok}

passed : (c : Then-ok) → let a = c.args in ok_of a.b a.x a.y a.z ≡ true
passed c = cc (to_z-of_z c.ranges.x, to_z-of_z c.ranges.y)

pub tile_at-requires : goal.tile_at-requires
tile_at-requires c =
    let w = told_within c.args.b c.args.x c.args.y c.args.z (ok_told c.args.b c.args.x c.args.y c.args.z (passed (goal.at.tile_at-requires c).Then-ok)) in
    (c.requires, rw (c.cut-row.ensures, c.cut-col.ensures, to_z-of_z c.ranges.x, to_z-of_z c.ranges.y) w)

pub returns-then-ok : goal.returns-then-ok
returns-then-ok c =
    cc (tile_yes c.args.b c.args.x c.args.y c.args.z (passed (goal.at.returns-then-ok c).Then-ok), to_z-of_z c.ranges.x, to_z-of_z c.ranges.y)

pub returns-else-ok : goal.returns-else-ok
returns-else-ok c =
    tile_no c.args.b c.args.x c.args.y c.args.z (cc (to_z-of_z c.ranges.x, to_z-of_z c.ranges.y))
