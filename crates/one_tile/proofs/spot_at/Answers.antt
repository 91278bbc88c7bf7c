-- `one_tile::spot_at` meets its contract.
-- Assumes nothing.
use mathlib.Core.Path.{sym, subst}
use native.Mathlib.Omega.{arith}
use lib.ListN.{get_or}
use Rattle.walk.specs.Step.{Boxed}
use Rattle.one_tile.proofs.Ones.{met}
use Rattle.one_tile.proofs.spot_at.Goals as goal

pub overflow_cast-path_no-2 : goal.overflow_cast-path_no-2
overflow_cast-path_no-2 c = omega (arith, c.type_inv.path_nos c.args.place)

pub spot_of-requires : goal.spot_of-requires
spot_of-requires c =
    subst Boxed (sym c.path_at.ensures) (c.requires.0 (get_or c.args.path_nos.now c.args.place 0) c.if-path_no-paths.false)

pub returns : goal.returns
returns c =
    met c.args.path_nos.now c.args.coords.now c.args.paths.now c.args.place c.line_at-line.result c.path_at.result c.spot_of.result
    c.line_at-line.ensures c.path_at.ensures c.if-path_no-paths.false c.spot_of.ensures
