-- `tile_rows::rows::Rows::put` meets its contract. The invariant: in each list the places below yi are done. Assumes nothing.
use mathlib.Core.Path.{◌≡◌, ap, ◌∙◌}
use mathlib.Core.List.{List}
use Prim.Native.Nat.{ℕ, ◌+◌}
use lib.ListN.{length, set}
use lib.Ieee.{Float, nan}
use Rattle.lists.specs.Grid.{mapi, within}
use Rattle.sides.specs.Tile.{tile_height}
use Rattle.one_row.specs.Row.{row_of}
use Rattle.tile_rows.specs.Rows.{no_rows, of_row, column}
use Rattle.tile_rows.proofs.RowsLaws.{column_any}
use Rattle.one_row.specs.declared.Way.{Way}
use Rattle.one_row.specs.declared.Row.{Row}
use Rattle.ranges.proofs.Turn.{begun, turned}
use native.Mathlib.Omega.{arith}
use borrow.Author.Rules.{rules}
use Rattle.tile_rows.proofs.rows.Rows.put.Invariants.{Told}
use Rattle.tile_rows.proofs.rows.Rows.put.Goals as goal

module _ (f : Row → Float) (w : Way) (yt : Float) where
  none : (l : List Float) → Told f w yt 0 l l
  none l = begun (of_row f w yt) nan l

  more : (yi : ℕ) (r : Row) (l₀ l : List Float) → r ≡ row_of w yt yi → Told f w yt yi l₀ l → Told f w yt (yi + 1) l₀ (set l yi (f r))
  more yi r l₀ l e t = turned (of_row f w yt) nan 0 yi l₀ l (f r) (omega arith) t (ap f e)

  over : (yi : ℕ) (l₀ l : List Float) → yi ≡ tile_height → length l₀ ≡ tile_height → Told f w yt yi l₀ l → l ≡ column f w yt no_rows
  over yi l₀ l e n t = t.1 ∙ ap (λ (n : ℕ). mapi (within 0 n (of_row f w yt)) l₀) e ∙ column_any f w yt l₀ n

pub loop-yi-init : goal.loop-yi-init
loop-yi-init c = (none (λ (r : Row). r.y) _ _ _, none (λ (r : Row). r.y0) _ _ _, none (λ (r : Row). r.y1) _ _ _, none (λ (r : Row). r.dy) _ _ _, none (λ (r : Row). r.edge) _ _ _)

pub loop-yi-preserved : goal.loop-yi-preserved
loop-yi-preserved c =
    let a = c.args in
    let l = c.loop-yi in
    let r = c.row_of-r.result in
    let e = c.row_of-r.ensures in (
      more (λ (r : Row). r.y) a.w a.yt l.yi r _ l.self.ys e l.invariant.0,
      more (λ (r : Row). r.y0) a.w a.yt l.yi r _ l.self.y0s e l.invariant.1,
      more (λ (r : Row). r.y1) a.w a.yt l.yi r _ l.self.y1s e l.invariant.2,
      more (λ (r : Row). r.dy) a.w a.yt l.yi r _ l.self.dys e l.invariant.3,
      more (λ (r : Row). r.edge) a.w a.yt l.yi r _ l.self.edges e l.invariant.4,
    )

pub returns : goal.returns
returns c =
    let l = c.loop-yi in (
      over (λ (r : Row). r.y) _ _ _ _ _ (omega arith) (search rules) l.invariant.0,
      over (λ (r : Row). r.y0) _ _ _ _ _ (omega arith) (search rules) l.invariant.1,
      over (λ (r : Row). r.y1) _ _ _ _ _ (omega arith) (search rules) l.invariant.2,
      over (λ (r : Row). r.dy) _ _ _ _ _ (omega arith) (search rules) l.invariant.3,
      over (λ (r : Row). r.edge) _ _ _ _ _ (omega arith) (search rules) l.invariant.4,
    )
