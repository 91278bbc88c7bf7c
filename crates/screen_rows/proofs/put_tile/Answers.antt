-- `screen_rows::put_tile` meets its contract. The invariant: the tile's rows above y are written. Assumes nothing.
use mathlib.Core.Path.{refl, sym, subst, ◌∙◌}
use Prim.Native.Nat.{ℕ, ◌*◌, ◌+◌, ◌≤◌}
use Rattle.sides.specs.Tile.{tile_height}
use Rattle.colours.specs.Layer.{meant}
use Rattle.screen_rows.specs.Rows.{from_list}
use Rattle.screen_rows.proofs.Places.{row_room, no_rows, row_more, all_rows}
use native.Mathlib.Omega.{arith}
use borrow.Author.Rules.{rules}
use Rattle.screen_rows.proofs.put_tile.Goals as goal

pub loop-y-init : goal.loop-y-init
loop-y-init c = (
  refl,
  no_rows (from_list (meant c.args.flat.now c.args.rgba.now) c.args.width) c.args.width c.args.tx
      c.args.ty c.args.pixels.now,
)

pub put_any-requires : goal.put_any-requires
put_any-requires c =
    let a = c.args in (
      search rules,
      search rules,
      search rules,
      search rules,
      row_room a.width a.tx a.ty c.loop-y.y _ (omega arith)
          c.requires.2 (subst (λ (n : ℕ). a.width * (tile_height * a.ty + tile_height) ≤ n)
          (sym c.loop-y.invariant.0) c.requires.3),
      c.requires.4,
    )

pub loop-y-preserved : goal.loop-y-preserved
loop-y-preserved c =
    let a = c.args in (
      c.put_any.auto.pixels ∙ c.loop-y.invariant.0,
      row_more
          (from_list (meant a.flat.now a.rgba.now) a.width) a.width a.tx a.ty c.loop-y.y _
          c.loop-y.pixels _ (omega arith)
          c.requires.2 c.loop-y.invariant.1
          c.put_any.ensures,
    )

pub shape_of-pixels : goal.shape_of-pixels
shape_of-pixels c = c.loop-y.invariant.0

pub returns : goal.returns
returns c =
    c.loop-y.invariant.1 ∙ all_rows (from_list (meant c.args.flat.now c.args.rgba.now) c.args.width) c.args.width c.args.tx c.args.ty c.loop-y.y _
    (omega arith)
