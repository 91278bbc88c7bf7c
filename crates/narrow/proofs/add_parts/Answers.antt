-- `narrow::add_parts` meets its contract. The invariant: the row's pixels left of i are done. Assumes nothing.
use mathlib.Core.Path.{◌≡◌, ap}
use mathlib.Core.List.{List}
use Prim.Native.Nat.{ℕ, ◌+◌, ◌-◌, ◌*◌, ◌%◌, ◌<◌}
use lib.ListN.{get_or, set}
use lib.Ieee.{Float, nan, binary32, add, mul}
use Rattle.sides.specs.Tile.{tile_width, row_start}
use Rattle.narrow.specs.Narrow.{last_span, parted}
use Rattle.ranges.proofs.Turn.{Done, begun_at, turned_at, ended_at}
use native.Mathlib.Omega.{arith}
use borrow.Author.Rules.{rules}
use Rattle.narrow.proofs.add_parts.Goals as goal

turn : (edge dy : Float) (t : List Float) (g yi i : ℕ) (l₀ l : List Float) → i < tile_width → Done (parted edge dy t g) (row_start yi) (row_start yi + i) l₀ l
    → Done (parted edge dy t g) (row_start yi) (row_start yi + (i + 1)) l₀
    (set l (row_start yi + i) (add binary32 (get_or l (row_start yi + i) nan) (add binary32 edge (mul binary32 (get_or t (last_span - g + i) nan) dy))))
unfolding parted
turn edge dy t g yi i l₀ l h done =
    let col : i ≡ (tile_width * yi + i) % tile_width = omega arith in
    turned_at (parted edge dy t g) nan (row_start yi) i l₀ l _ done
    (ap (λ (n : ℕ). add binary32 (get_or l (row_start yi + i) nan) (add binary32 edge (mul binary32 (get_or t (last_span - g + n) nan) dy))) col)

pub loop-i-init : goal.loop-i-init
loop-i-init c = begun_at (parted _ _ _ _) nan _ _

pub loop-i-preserved : goal.loop-i-preserved
loop-i-preserved c =
    let a = c.args in
    let l = c.loop-i in
    turn a.edge a.dy a.parts.now a.g a.yi l.i _ l.area (search rules) l.invariant

pub shape_of-area : goal.shape_of-area
shape_of-area c = c.loop-i.invariant.0

pub returns : goal.returns
returns c = ended_at (parted _ _ _ _) nan _ tile_width c.loop-i.i _ _ c.loop-i.invariant (omega arith)
