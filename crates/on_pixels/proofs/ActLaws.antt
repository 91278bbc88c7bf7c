-- A tile's areas and colours after a command, as the code's steps leave them. Assumes nothing.
use mathlib.Core.Path.{◌≡◌, sym, ap, ◌∙◌}
use mathlib.Core.List.{List, []}
use Prim.Native.Nat.{ℕ}
use lib.IntN.{ℤ}
use lib.ListN.{length}
use lib.Ieee.{Float, nan}
use Rattle.util.specs.Constants as Number
use Rattle.lists.specs.Grid.{tabulate}
use Rattle.lists.specs.GridLaws.{length_mapi}
use Rattle.sides.specs.Tile.{tile_size}
use Rattle.coverage.specs.Coverage.{pixel_of, coverage_of}
use Rattle.coverage.proofs.Laws.{mapi_over}
use Rattle.commands.specs.Moves.{count_of}
use Rattle.commands.specs.Pixel.{even_odd_of, signed_of, cover, paint, cover_all, paint_all}
use Rattle.commands.specs.declared.steps.Act.{Act}
use Rattle.commands.specs.declared.steps.Act.TheVariants.{Fill, Solid, Color, Jump}
use Rattle.commands.proofs.Acts.{unchanged}

pub length_cover : (a : Act) (segs area : List Float) → length (cover_all a segs area) ≡ length area
unfolding cover_all
length_cover a segs area = length_mapi (cover a segs) area

-- ---- what the code's steps leave is what the command says
module _ (segs area : List Float) (rgba : List (List Float)) where
  pub by_fill : (rule first backdrop : ℕ) (z : ℤ) (area' : List Float) → length area ≡ tile_size → z ≡ signed_of backdrop
      → area' ≡ coverage_of segs first (count_of rule) (even_odd_of rule) z Number.zero Number.zero → area' ≡ cover_all (Fill rule first backdrop) segs area
  unfolding cover_all cover coverage_of
  by_fill rule first backdrop z area' n p e =
      let f = pixel_of segs first (count_of rule) (even_odd_of rule) (signed_of backdrop) Number.zero Number.zero in
      e ∙ ap (λ (b : ℤ). coverage_of segs first (count_of rule) (even_odd_of rule) b Number.zero Number.zero) p ∙ ap (λ (m : ℕ). tabulate m f) (sym n) ∙ sym (mapi_over f area)

  pub fill_paints : (rule first backdrop : ℕ) → rgba ≡ paint_all (Fill rule first backdrop) area rgba
  unfolding paint_all paint
  fill_paints rule first backdrop = unchanged [] rgba

  pub solid_paints : rgba ≡ paint_all Solid area rgba
  unfolding paint_all paint
  solid_paints = unchanged [] rgba

  pub color_covers : (word : ℕ) → area ≡ cover_all (Color word) segs area
  unfolding cover_all cover
  color_covers word = unchanged nan area

  pub jump_covers : area ≡ cover_all Jump segs area
  unfolding cover_all cover
  jump_covers = unchanged nan area

  pub jump_paints : rgba ≡ paint_all Jump area rgba
  unfolding paint_all paint
  jump_paints = unchanged [] rgba
