-- `tile_rows::own::edgeless` meets its contract. Assumes nothing.
use mathlib.Core.Path.{◌≡◌, ap, ◌∙◌}
use mathlib.Core.Bool.{Bool, ◌&&◌}
use Prim.Native.Nat.{◌-◌}
use lib.Ieee.{Float, le}
use lib.Ieee.Scale.{finite}
use Rattle.util.specs.Constants.{zero}
use Rattle.sides.specs.Tile.{tile_height}
use Rattle.tile_rows.specs.Own.{left_of, edgeless_of}
use Rattle.one_row.specs.declared.Way.{Way}
use Rattle.sides.proofs.Small.{small}
use borrow.Author.Rules.{rules}
use Rattle.tile_rows.proofs.own.edgeless.Goals as goal

-- the last row is tried, where the sign and y_edge are finite
by_last : (w : Way) (yt : Float) (s e : Bool) → s ≡ finite w.sign → e ≡ finite w.edge → ((s && e) && le (left_of w yt (tile_height - 1)) zero) ≡ edgeless_of w yt
unfolding edgeless_of
by_last w yt s e p q =
    ap (λ (z : Bool). (z && e) && le (left_of w yt (tile_height - 1)) zero) p ∙ ap (λ (z : Bool). (finite w.sign && z) && le (left_of w yt (tile_height - 1)) zero) q

pub int_to_float-top : goal.int_to_float-top
int_to_float-top c = small _ (search rules)

pub returns : goal.returns
returns c =
    let a = c.args in
    by_last a.w a.yt _ _ c.is_finite.ensures c.is_finite-2.ensures
