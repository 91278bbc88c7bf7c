-- `pixel::coverage_at` meets its contract. Assumes nothing.
use mir.Syntax.{w32}
use mir.ValLaws.{to_z-of_z}
use mathlib.Core.Path.{◌≡◌, sym, ap, ◌∙◌}
use mathlib.Core.Bool.{Bool}
use mathlib.Core.List.{List}
use Prim.Native.Nat.{ℕ, ◌+◌, ◌*◌, ◌<◌, ◌≤◌}
use lib.IntN.{ℤ}
use lib.ListN.{length}
use lib.Ieee.{Float}
use Rattle.panel.specs.Widths.{segment_floats}
use Rattle.panel.specs.Checks.{first_no}
use Rattle.panel.proofs.CheckLaws.{all_ok, none_fails}
use Rattle.panel.specs.Verdict.{Verdict, Fine, Against, verdict_told}
use Rattle.sides.specs.Tile.{tile_width, tile_height, tile_size}
use Rattle.coverage.specs.Coverage.{pixel_of}
use Rattle.coverage.specs.Ground.{ground_checks}
use Rattle.coverage.specs.Fill.{fill_checks}
use Rattle.coverage.proofs.Grounds.{ground_room}
use Rattle.pixel.specs.Place.{place_at, place_checks}
use Rattle.pixel.specs.Answers.{answered, refused_by, coverage_paper}
use Rattle.pixel.specs.Coverage.{coverage_at_of}
use Rattle.pixel.proofs.Places.{on_tile_lem}
use Rattle.pixel.proofs.ToldLaws.{covered_on}
use Rattle.pixel.proofs.coverage_at.Goals as goal

-- what the checks say, where none fails
checked : (segs : List Float) (first n column row : ℕ) → first_no (place_checks column row) ≡ Fine → first_no (fill_checks segs tile_size first n) ≡ Fine
    → (segment_floats * (first + n) ≤ length segs) × (column < tile_width) × (row < tile_height)
checked segs first n column row e f =
    let ok = all_ok (fill_checks segs tile_size first n) f in
    let on = on_tile_lem column row e in
    (ground_room segs first n (none_fails (ground_checks segs first n) ok.1.1), on.0, on.1)

module _ (segs : List Float) (first n : ℕ) (eo : Bool) (z : ℤ) (xt yt : Float) (column row : ℕ) (p : Verdict) (e : p ≡ first_no (place_checks column row)) where
  off : (k : ℕ) → p ≡ Against k → refused_by k ≡ coverage_at_of segs first n eo z xt yt column row
  unfolding coverage_at_of
  off k f = rw (sym e ∙ f)

  module _ (f : p ≡ Fine) (v : Verdict) (g : v ≡ first_no (fill_checks segs tile_size first n)) where
    no : (k : ℕ) → v ≡ Against k → refused_by k ≡ coverage_at_of segs first n eo z xt yt column row
    unfolding coverage_at_of
    no k h = rw (sym e ∙ f, sym g ∙ h)

    yes : (a : Float) → v ≡ Fine → a ≡ pixel_of segs first n eo z xt yt (place_at column row) → answered a ≡ coverage_at_of segs first n eo z xt yt column row
    unfolding coverage_at_of
    yes a h q = rw (sym e ∙ f, sym g ∙ h, q)

pub returns-in_err-check_place : goal.returns-in_err-check_place
returns-in_err-check_place c =
    ap coverage_paper (covered_on _ _ c.from_residual.ensures.1) ∙ off _ _ _ _ _ _ _ _ _ _ c.check_place.ensures _ (ap verdict_told c.in_err-check_place.was)

pub returns-in_err-check_fill : goal.returns-in_err-check_fill
returns-in_err-check_fill c =
    ap coverage_paper (covered_on _ _ c.from_residual-in_err-check_fill.ensures.1)
    ∙ no c.args.segments.now _ _ _ _ _ _ _ _ _ c.check_place.ensures (ap verdict_told c.in_ok-check_place.was) _
    c.check_fill.ensures _ (ap verdict_told c.in_err-check_fill.was)

pub coverage_of-requires : goal.coverage_of-requires
coverage_of-requires c = checked c.args.segments.now _ _ _ _
    (sym c.check_place.ensures ∙ ap verdict_told c.in_ok-check_place.was)
    (sym c.check_fill.ensures ∙ ap verdict_told c.in_ok-check_fill.was)

pub returns : goal.returns
returns c =
    let a = c.args in
    yes a.segments.now a.first a.number a.even_odd a.backdrop a.x_tile a.y_tile a.column a.row _
    c.check_place.ensures (ap verdict_told c.in_ok-check_place.was) _ c.check_fill.ensures _
    (ap verdict_told c.in_ok-check_fill.was)
    (c.coverage_of.ensures ∙ ap (λ (z : ℤ). pixel_of a.segments.now a.first a.number a.even_odd z a.x_tile a.y_tile (place_at a.column a.row))
    (to_z-of_z w32 a.backdrop c.ranges.backdrop))
