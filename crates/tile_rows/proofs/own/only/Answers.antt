-- `tile_rows::own::only` meets its contract. Assumes nothing.
use mathlib.Core.Path.{◌≡◌, ap, ◌∙◌}
use mathlib.Core.Bool.{Bool, ◌&&◌, ◌||◌}
use Prim.Native.Nat.{ℕ, ◌+◌, ◌-◌, ◌%◌}
use lib.Dec.{eqb, leb}
use lib.Ieee.{Float}
use Rattle.sides.specs.Tile.{tile_height}
use Rattle.tile_rows.specs.Own.{above_of, below_of, only_of}
use Rattle.one_row.specs.declared.Way.{Way}
use Rattle.tile_rows.proofs.own.only.Goals as goal

-- the two rows that are tried
by_rows : (w : Way) (yt : Float) (from to : ℕ) (a b : Bool) → a ≡ above_of w yt ((from + (tile_height - 1)) % tile_height) → b ≡ below_of w yt (to % tile_height)
    → (((leb from to && leb to tile_height) && (eqb from 0 || a)) && (eqb to tile_height || b)) ≡ only_of w yt from to
unfolding only_of
by_rows w yt from to a b p q =
    ap (λ (z : Bool). ((leb from to && leb to tile_height) && (eqb from 0 || z)) && (eqb to tile_height || b)) p
    ∙ ap (λ (z : Bool). ((leb from to && leb to tile_height) && (eqb from 0 || above_of w yt ((from + (tile_height - 1)) % tile_height))) && (eqb to tile_height || z)) q

pub returns : goal.returns
returns c =
    let a = c.args in
    by_rows a.w a.yt a.from a.to _ _ c.above.ensures c.below.ensures
