-- `one_segment::add_rows` meets its contract. The invariant: so many fours of rows are done. Assumes nothing.
use mathlib.Core.Path.{◌≡◌, subst}
use Prim.Native.Nat.{ℕ, ◌+◌, ◌*◌}
use lib.Ieee.{nan}
use Rattle.sides.specs.Tile.{tile_size, row_start}
use Rattle.tile_rows.specs.Rows.{rows_at_once, step_in}
use Rattle.ranges.proofs.Turn.{Done, begun, turned_to, ended}
use native.Mathlib.Omega.{arith}
use borrow.Author.Rules.{rules}
use Rattle.one_segment.proofs.add_rows.Goals as goal

pub loop-four-init : goal.loop-four-init
loop-four-init c = begun (step_in _ _ _ _ _ _) nan _

pub add_four-requires : goal.add_four-requires
add_four-requires c = (omega arith, search rules)

pub loop-four-preserved : goal.loop-four-preserved
loop-four-preserved c =
    let a = c.args in
    let r = a.rows.now in
    let l = c.loop-four in
    let f = step_in a.w r.ys r.y0s r.y1s r.dys r.edges in
    let from = rows_at_once * l.four in
    let next : row_start (from + rows_at_once) ≡ row_start (rows_at_once * (l.four + 1)) = omega arith in
    subst (λ (b : ℕ). Done f 0 b a.area.now c.add_four.new.area) next
    (turned_to f nan 0 (row_start from) (row_start (from + rows_at_once)) _ l.area _ (omega arith) (omega arith) l.invariant c.add_four.ensures)

pub shape_of-area : goal.shape_of-area
shape_of-area c = c.loop-four.invariant.0

pub returns : goal.returns
returns c =
    let a = c.args in
    let r = a.rows.now in
    let l = c.loop-four in
    ended (step_in a.w r.ys r.y0s r.y1s r.dys r.edges) nan tile_size (row_start (rows_at_once * l.four)) _ _ l.invariant c.requires (omega arith)
