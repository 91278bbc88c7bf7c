-- `pixel::colour_at` meets its contract. Assumes nothing.
use mathlib.Core.Path.{◌≡◌, sym, ap, ◌∙◌}
use mathlib.Core.List.{List}
use Prim.Native.Nat.{ℕ, ◌%◌}
use lib.ListN.{length}
use lib.Ieee.{Float}
use borrow.Author.Tests.{eq-eqb, ne_eqb}
use Rattle.panel.specs.Checks.{first_no}
use Rattle.panel.specs.Refusals.{not_whole}
use Rattle.panel.specs.Widths.{segment_floats}
use Rattle.panel.specs.Verdict.{Verdict, Fine, Against, verdict_told}
use Rattle.pixel.specs.Place.{place_at, place_checks}
use Rattle.pixel.specs.Answers.{Paper, refused_by, colour_paper}
use Rattle.pixel.specs.Colour.{under_list, colour_at_of}
use Rattle.pixel.proofs.Places.{on_tile_lem}
use Rattle.pixel.proofs.ToldLaws.{coloured_on}
use Rattle.pixel.proofs.colour_at.Goals as goal

module _ (ws : List ℕ) (segs : List Float) (t column row : ℕ) (p : Verdict) (e : p ≡ first_no (place_checks column row)) where
  off : (k : ℕ) → p ≡ Against k → refused_by k ≡ colour_at_of ws segs t column row
  unfolding colour_at_of
  off k f = rw (sym e ∙ f)

  module _ (f : p ≡ Fine) where
    torn : (length segs % segment_floats ≡ 0 → ⊥) → refused_by not_whole ≡ colour_at_of ws segs t column row
    unfolding colour_at_of
    torn h = rw (sym e ∙ f, ne_eqb _ _ h)

    runs : (r : Paper ℕ) → length segs % segment_floats ≡ 0 → r ≡ under_list ws segs t (place_at column row) → r ≡ colour_at_of ws segs t column row
    unfolding colour_at_of
    runs r h q = q ∙ rw (sym e ∙ f, eq-eqb _ _ h)

pub returns-in_err-check_place : goal.returns-in_err-check_place
returns-in_err-check_place c =
    ap colour_paper (coloured_on _ _ c.from_residual.ensures.1) ∙ off _ _ _ _ _ _ c.check_place.ensures _ (ap verdict_told c.in_err-check_place.was)

pub returns-then-segments-ne0 : goal.returns-then-segments-ne0
returns-then-segments-ne0 c = torn _ _ _ _ _ _ c.check_place.ensures (ap verdict_told c.in_ok-check_place.was) c.if-segments-ne0.true

pub colour_of-requires : goal.colour_of-requires
colour_of-requires c = on_tile_lem _ _ (sym c.check_place.ensures ∙ ap verdict_told c.in_ok-check_place.was)

pub returns : goal.returns
returns c =
    let a = c.args in
    runs a.words.now a.segments.now a.t a.column a.row _ c.check_place.ensures (ap verdict_told c.in_ok-check_place.was) _
    c.if-segments-ne0.false c.colour_of.ensures
