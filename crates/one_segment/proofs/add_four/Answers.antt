-- `one_segment::add_four` meets its contract. The invariant: of the four rows those above k are done. Assumes nothing.
use mathlib.Core.Path.{◌≡◌, sym, ap, subst, ◌∙◌}
use mathlib.Core.List.{List}
use Prim.Native.Nat.{ℕ, ◌+◌}
use lib.Ieee.{Float, nan}
use Rattle.lists.specs.Grid.{mapi, within}
use Rattle.sides.specs.Tile.{row_start}
use Rattle.tile_rows.specs.Rows.{step_in}
use Rattle.tile_rows.proofs.RowsLaws.{one_row, passed_over}
use Rattle.ranges.proofs.Turn.{Done, begun_at}
use native.Mathlib.Omega.{arith}
use Rattle.one_segment.proofs.add_four.Goals as goal

-- no row yet
none : (f : ℕ → Float → Float) (yi : ℕ) (l : List Float) → Done f (row_start yi) (row_start (yi + 0)) l l
none f yi l =
    let n : row_start yi + 0 ≡ row_start (yi + 0) = omega arith in
    subst (λ (b : ℕ). Done f (row_start yi) b l l) n (begun_at f nan (row_start yi) l)

pub returns-then-nothing : goal.returns-then-nothing
returns-then-nothing c =
    let a = c.args in
    let r = a.rows.now in
    passed_over a.w r.ys r.y0s r.y1s r.dys r.edges a.yi _ (sym c.four_clear-nothing.ensures ∙ c.if-nothing.true)

pub loop-k-init : goal.loop-k-init
loop-k-init c = none (step_in _ _ _ _ _ _) _ _

pub loop-k-preserved : goal.loop-k-preserved
loop-k-preserved c =
    let a = c.args in
    let r = a.rows.now in
    let l = c.loop-k in
    one_row a.w r.ys r.y0s r.y1s r.dys r.edges (a.yi + l.k) _ c.row_at.ensures (row_start a.yi)
    (row_start (a.yi + (l.k + 1))) _ l.area _ (omega arith) (omega arith) l.invariant c.add_row.ensures

pub shape_of-area : goal.shape_of-area
shape_of-area c = c.loop-k.invariant.0

pub returns : goal.returns
returns c =
    let a = c.args in
    let r = a.rows.now in
    let l = c.loop-k in
    let f = step_in a.w r.ys r.y0s r.y1s r.dys r.edges in
    let n : l.k ≡ 4 = omega arith in
    l.invariant.1 ∙ ap (λ (b : ℕ). mapi (within (row_start a.yi) (row_start (a.yi + b)) f) a.area.now) n
