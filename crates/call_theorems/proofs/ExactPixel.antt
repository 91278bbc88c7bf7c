-- Exact at the call: one pixel's coverage, and one pixel under a list. A promise is met where one of the call's ways holds, and nowhere else. Assumes nothing.
use mathlib.Core.Path.{◌≡◌, refl}
use mathlib.Core.Logic.{◌↔◌}
use mathlib.Core.Bool.{Bool}
use mathlib.Core.List.{List}
use Prim.Native.Nat.{ℕ}
use lib.ListN.{length}
use lib.IntN.{ℤ}
use lib.Ieee.{Float}
use Rattle.panel.specs.Checks.{first_no}
use Rattle.panel.specs.Verdict.{Verdict, Fine, Against}
use Rattle.sides.specs.Tile.{tile_size}
use Rattle.coverage.specs.Coverage.{pixel_of}
use Rattle.coverage.specs.Fill.{fill_checks}
use Rattle.colours.specs.Colour.{pack_of}
use Rattle.screen_tile.specs.Tile.{ends_at, colour_at}
use Rattle.pixel.specs.Place.{place_at, place_checks}
use Rattle.pixel.specs.Coverage.{coverage_at_of, CoverageAtMet}
use Rattle.pixel.specs.Colour.{whole_checks, under_list, colour_at_of, ColourAtMet}
use Rattle.pixel.specs.Covered.{Covered}
use Rattle.pixel.specs.Coloured.{Coloured}
use Rattle.pixel.proofs.Once.{one_coverage, one_colour}
use Rattle.theorems.proofs.Exact.{row_exact}
use Rattle.theorems.proofs.ExactCommands.{tile_exact}
use Rattle.call_theorems.specs.Ways.{PixelAreaWay, area_off, area_refused, covered, PixelWay, pixel_off, pixel_unwhole, list_refused, coloured}

-- ---- its coverage

module _ (segs : List Float) (first n : ℕ) (even_odd : Bool) (backdrop : ℤ) (x y : Float) (column row : ℕ) (a : Covered) where
  abbrev AreaMet : Covered → Type 0
  AreaMet c = CoverageAtMet segs first n even_odd backdrop x y column row c

  abbrev place : Verdict
  place = first_no (place_checks column row)

  abbrev checks : Verdict
  checks = first_no (fill_checks segs tile_size first n)

  met_off : (k : ℕ) → place ≡ Against k → AreaMet (Covered.Refused k)
  unfolding coverage_at_of
  met_off k e = rw e

  met_area_no : (k : ℕ) → place ≡ Fine → checks ≡ Against k → AreaMet (Covered.Refused k)
  unfolding coverage_at_of
  met_area_no k e f = rw (e, f)

  met_area : place ≡ Fine → checks ≡ Fine → AreaMet (Covered.Done (pixel_of segs first n even_odd backdrop x y (place_at column row)))
  unfolding coverage_at_of
  met_area e f = rw (e, f)

  pub pixel_area_exact : AreaMet a ↔ PixelAreaWay segs first n even_odd backdrop x y column row a
  pixel_area_exact = ((λ p. why p place refl checks refl), back)
    where
      why : AreaMet a → (v : Verdict) → place ≡ v → (w : Verdict) → checks ≡ w → PixelAreaWay segs first n even_odd backdrop x y column row a
      why p (Against k) e w f =
          area_off k (one_coverage segs first n even_odd backdrop x y column row a (Covered.Refused k) p (met_off k e)) ((row_exact k (place_checks column row)).0 e)
      why p Fine e (Against k) f =
          area_refused k (one_coverage segs first n even_odd backdrop x y column row a (Covered.Refused k) p (met_area_no k e f)) e
          ((row_exact k (fill_checks segs tile_size first n)).0 f)
      why p Fine e Fine f =
          covered
          (one_coverage segs first n even_odd backdrop x y column row a (Covered.Done (pixel_of segs first n even_odd backdrop x y (place_at column row))) p (met_area e f)) e f

      back : PixelAreaWay segs first n even_odd backdrop x y column row a → AreaMet a
      back (area_off k ex w) = rw ex (met_off k ((row_exact k (place_checks column row)).1 w))
      back (area_refused k ex e w) = rw ex (met_area_no k e ((row_exact k (fill_checks segs tile_size first n)).1 w))
      back (covered ex e f) = rw ex (met_area e f)

-- ---- its colour under a list

module _ (words : List ℕ) (segs : List Float) (t column row : ℕ) (a : Coloured) where
  abbrev ColourMet : Coloured → Type 0
  ColourMet c = ColourAtMet words segs t column row c

  abbrev at : Verdict
  at = first_no (place_checks column row)

  abbrev whole : Verdict
  whole = first_no (whole_checks (length segs))

  met_pixel_off : (k : ℕ) → at ≡ Against k → ColourMet (Coloured.Refused k)
  unfolding colour_at_of
  met_pixel_off k e = rw e

  met_unwhole : (k : ℕ) → at ≡ Fine → whole ≡ Against k → ColourMet (Coloured.Refused k)
  unfolding colour_at_of
  met_unwhole k e f = rw (e, f)

  met_list_no : (k : ℕ) → at ≡ Fine → whole ≡ Fine → ends_at words segs t ≡ Against k → ColourMet (Coloured.Refused k)
  unfolding colour_at_of under_list
  met_list_no k e f g = rw (e, f, g)

  met_colour : at ≡ Fine → whole ≡ Fine → ends_at words segs t ≡ Fine → ColourMet (Coloured.Done (pack_of (colour_at words segs t (place_at column row))))
  unfolding colour_at_of under_list
  met_colour e f g = rw (e, f, g)

  pub pixel_exact : ColourMet a ↔ PixelWay words segs t column row a
  pixel_exact = ((λ p. why p at refl whole refl (ends_at words segs t) refl), back)
    where
      why : ColourMet a → (v : Verdict) → at ≡ v → (w : Verdict) → whole ≡ w → (z : Verdict) → ends_at words segs t ≡ z → PixelWay words segs t column row a
      why p (Against k) e w f z g =
          pixel_off k (one_colour words segs t column row a (Coloured.Refused k) p (met_pixel_off k e)) ((row_exact k (place_checks column row)).0 e)
      why p Fine e (Against k) f z g =
          pixel_unwhole k (one_colour words segs t column row a (Coloured.Refused k) p (met_unwhole k e f)) e ((row_exact k (whole_checks (length segs))).0 f)
      why p Fine e Fine f (Against k) g =
          list_refused k (one_colour words segs t column row a (Coloured.Refused k) p (met_list_no k e f g)) e f ((tile_exact words segs t k).0 g)
      why p Fine e Fine f Fine g =
          coloured (one_colour words segs t column row a (Coloured.Done (pack_of (colour_at words segs t (place_at column row)))) p (met_colour e f g)) e f g

      back : PixelWay words segs t column row a → ColourMet a
      back (pixel_off k ex w) = rw ex (met_pixel_off k ((row_exact k (place_checks column row)).1 w))
      back (pixel_unwhole k ex e w) = rw ex (met_unwhole k e ((row_exact k (whole_checks (length segs))).1 w))
      back (list_refused k ex e f w) = rw ex (met_list_no k e f ((tile_exact words segs t k).1 w))
      back (coloured ex e f g) = rw ex (met_colour e f g)
