-- `one_segment::add_few` meets its contract. The invariant: the rows from .. yi are done. Assumes nothing.
use mathlib.Core.Path.{◌≡◌, refl, sym, ap, ◌∙◌}
use Prim.Native.Nat.{ℕ}
use lib.Ieee.{nan}
use Rattle.lists.specs.Grid.{mapi, within}
use Rattle.lists.specs.GridLaws.{within_none}
use Rattle.sides.specs.Tile.{row_start}
use Rattle.one_row.specs.Row.{step_way}
use Rattle.tile_rows.proofs.OwnLaws.{row_more}
use native.Mathlib.Omega.{arith}
use borrow.Author.Rules.{rules}
use Rattle.one_segment.proofs.add_few.Goals as goal

pub loop-yi-init : goal.loop-yi-init
loop-yi-init c = (search rules, (refl, sym (within_none (step_way _ _) _ nan _)))

pub loop-yi-preserved : goal.loop-yi-preserved
loop-yi-preserved c =
    let a = c.args in
    let l = c.loop-yi in (
      omega arith,
      row_more a.w a.yt l.yi c.row_of.result c.row_of.ensures (row_start a.from) _ l.area _ (omega arith)
          l.invariant.1 c.add_own_row.ensures,
    )

pub shape_of-area : goal.shape_of-area
shape_of-area c = c.loop-yi.invariant.1.0

pub returns : goal.returns
returns c =
    let a = c.args in
    let l = c.loop-yi in
    let n : l.yi ≡ a.to = omega arith in
    l.invariant.1.1 ∙ ap (λ (b : ℕ). mapi (within (row_start a.from) (row_start b) (step_way a.w a.yt)) a.area.now) n
