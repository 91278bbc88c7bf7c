-- `on_pixels::carry_out` meets its contract: an arm for each command. Assumes nothing.
use mathlib.Core.Path.{◌≡◌, sym, ap, subst, ◌∙◌}
use mathlib.Core.List.{List}
use lib.ListN.{length}
use lib.Ieee.{Float}
use mir.Syntax.{w32}
use mir.ValLaws.{to_z-of_z}
use Rattle.colours.specs.Colour.{composite_of}
use Rattle.colours.specs.Layer.{meant}
use Rattle.commands.specs.Pixel.{cover, paint, cover_all, paint_all, Within}
use Rattle.commands.specs.declared.steps.Act.{Act}
use Rattle.commands.specs.declared.steps.Act.TheVariants.{Solid, Jump}
use Rattle.on_pixels.proofs.ActLaws.{by_fill, fill_paints, solid_paints, color_covers, jump_covers, jump_paints}
use Rattle.on_pixels.proofs.carry_out.Goals as goal

-- what holds of the command that the arm knows holds of the one given
known : (segs area : List Float) (rgba : List (List Float)) (a a' : Act) (area' : List Float) (rgba' : List (List Float)) (L : Type 0) → a ≡ a' → L
    → (area' ≡ cover_all a' segs area) × (rgba' ≡ paint_all a' area rgba) → (area' ≡ cover_all a segs area) × L × (rgba' ≡ paint_all a area rgba)
known segs area rgba a a' area' rgba' L e l h = (h.0 ∙ ap (λ (z : Act). cover_all z segs area) (sym e), l, h.1 ∙ ap (λ (z : Act). paint_all z area rgba) (sym e))

pub fill_path-requires : goal.fill_path-requires
fill_path-requires c =
    (c.requires.1, subst (λ (a : Act). Within a (length c.args.segments.now)) c.in-Fill.is c.requires.0)

pub composite-requires : goal.composite-requires
composite-requires c =
    let p = c.requires in
    (p.2, p.1, p.3)

pub returns-in-Fill : goal.returns-in-Fill
returns-in-Fill c =
    let m = meant c.args.flat.now c.args.rgba.now in
    known c.args.segments.now c.args.area.now m c.args.act _ _ _ _ c.in-Fill.is c.requires.2 (
      by_fill c.args.segments.now c.args.area.now m _ _ _ _ _ c.requires.1
          (to_z-of_z w32 _ (record { sfits = c.signed-b.type_inv }) ∙ c.signed-b.ensures)
          c.fill_path.ensures,
      fill_paints c.args.segments.now c.args.area.now m _ _ _,
    )

pub returns-in-Solid : goal.returns-in-Solid
unfolding cover_all cover
returns-in-Solid c =
    let m = meant c.args.flat.now c.args.rgba.now in
    known c.args.segments.now c.args.area.now m c.args.act Solid _ _ _ c.in-Solid.is c.requires.2
    (c.set_all.ensures, solid_paints c.args.segments.now c.args.area.now m)

pub returns-in-Color : goal.returns-in-Color
unfolding paint_all paint composite_of
returns-in-Color c =
    let m = meant c.args.flat.now c.args.rgba.now in
    known c.args.segments.now c.args.area.now m c.args.act _ _ _ _ c.in-Color.is c.composite.ensures.0 (
      color_covers c.args.segments.now c.args.area.now m _,
      c.composite.ensures.1 ∙ ap (λ (fg : List Float). composite_of c.args.area.now fg m) c.colour.ensures,
    )

pub returns-in-Jump : goal.returns-in-Jump
returns-in-Jump c =
    let m = meant c.args.flat.now c.args.rgba.now in
    known c.args.segments.now c.args.area.now m c.args.act Jump _ _ _ c.in-Jump.is c.requires.2
    (jump_covers c.args.segments.now c.args.area.now m, jump_paints c.args.segments.now c.args.area.now m)
