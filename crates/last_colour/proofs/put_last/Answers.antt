-- `last_colour::put_last` meets its contract. The invariant: the tile's rows above y are written. Assumes nothing.
use mathlib.Core.Path.{refl, sym, subst, ◌∙◌}
use Prim.Native.Nat.{ℕ, ◌*◌, ◌+◌, ◌≤◌}
use Rattle.sides.specs.Tile.{tile_height}
use Rattle.colours.specs.Colour.{composite_of}
use Rattle.colours.specs.Layer.{meant}
use Rattle.screen_rows.specs.Rows.{from_list}
use Rattle.screen_rows.proofs.Places.{row_room, no_rows, row_more, all_rows}
use native.Mathlib.Omega.{arith}
use borrow.Author.Rules.{rules}
use Rattle.last_colour.proofs.put_last.Goals as goal

pub loop-y-init : goal.loop-y-init
loop-y-init c =
    let a = c.args in (
      refl,
      no_rows (from_list (composite_of a.area.now a.fg (meant a.flat.now a.rgba.now)) a.width) a.width a.tx a.ty a.pixels.now,
    )

pub put_over-requires : goal.put_over-requires
put_over-requires c =
    let a = c.args in
    let p = c.requires in
    let l = c.loop-y in (
      search rules,
      search rules,
      search rules,
      search rules,
      row_room a.width a.tx a.ty l.y _ (omega arith)
          p.2 (subst (λ (n : ℕ). a.width * (tile_height * a.ty + tile_height) ≤ n) (sym l.invariant.0) p.3),
      p.4,
      p.5,
      p.6,
    )

pub loop-y-preserved : goal.loop-y-preserved
loop-y-preserved c =
    let a = c.args in
    let l = c.loop-y in (
      c.put_over.auto.pixels ∙ l.invariant.0,
      row_more (from_list (composite_of a.area.now a.fg (meant a.flat.now a.rgba.now)) a.width) a.width a.tx a.ty l.y _
          l.pixels _ (omega arith) c.requires.2 l.invariant.1 c.put_over.ensures,
    )

pub shape_of-pixels : goal.shape_of-pixels
shape_of-pixels c = c.loop-y.invariant.0

pub returns : goal.returns
returns c =
    let a = c.args in
    let l = c.loop-y in
    l.invariant.1 ∙ all_rows (from_list (composite_of a.area.now a.fg (meant a.flat.now a.rgba.now)) a.width) a.width a.tx a.ty l.y _ (omega arith)
