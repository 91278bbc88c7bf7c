-- `one_segment::add_slant` meets its contract. The invariant: the row's pixels left of i are done. Assumes nothing.
use mathlib.Core.Path.{◌≡◌, ap, ◌∙◌}
use mathlib.Core.List.{List}
use Prim.Native.Nat.{ℕ, ◌+◌, ◌*◌, ◌%◌, ◌<◌}
use lib.ListN.{get_or, set}
use lib.Ieee.{Float, nan, binary32, add}
use Rattle.sides.specs.Tile.{tile_width, row_start}
use Rattle.ranges.proofs.Turn.{Done, begun_at, turned_at, ended_at}
use Rattle.one_row.specs.Row.{added_of, slanted}
use Rattle.one_row.specs.declared.Reach.{Reach}
use native.Mathlib.Omega.{arith}
use borrow.Author.Rules.{rules}
use Rattle.one_segment.proofs.add_slant.Goals as goal

turn : (p : Reach) (edge dy : Float) (yi i : ℕ) (l₀ l : List Float) (v : Float) → i < tile_width → Done (slanted p edge dy) (row_start yi) (row_start yi + i) l₀ l → v ≡ added_of p edge dy i
    → Done (slanted p edge dy) (row_start yi) (row_start yi + (i + 1)) l₀ (set l (row_start yi + i) (add binary32 (get_or l (row_start yi + i) nan) v))
unfolding slanted
turn p edge dy yi i l₀ l v h done e =
    let col : i ≡ (tile_width * yi + i) % tile_width = omega arith in
    turned_at (slanted p edge dy) nan (row_start yi) i l₀ l _ done (ap (add binary32 (get_or l (row_start yi + i) nan)) (e ∙ ap (added_of p edge dy) col))

pub loop-i-init : goal.loop-i-init
loop-i-init c = begun_at (slanted _ _ _) nan _ _

pub loop-i-preserved : goal.loop-i-preserved
loop-i-preserved c =
    let l = c.loop-i in
    turn c.args.p c.args.edge c.args.dy c.args.yi l.i _ l.area _ (search rules) l.invariant c.added.ensures

pub shape_of-area : goal.shape_of-area
shape_of-area c = c.loop-i.invariant.0

pub returns : goal.returns
returns c = ended_at (slanted _ _ _) nan _ tile_width c.loop-i.i _ _ c.loop-i.invariant (omega arith)
