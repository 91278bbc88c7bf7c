-- `coverage::fill` meets its contract. Assumes nothing.
use mir.Syntax.{w32}
use mir.ValLaws.{to_z-of_z}
use mathlib.Core.Path.{◌≡◌, sym, ap, ◌∙◌}
use mathlib.Core.Bool.{Bool}
use mathlib.Core.List.{List}
use Prim.Native.Nat.{ℕ, ◌+◌, ◌*◌, ◌≤◌}
use lib.IntN.{ℤ}
use lib.ListN.{length}
use lib.Ieee.{Float}
use borrow.Author.Tests.{eqb-true}
use Rattle.panel.specs.Widths.{segment_floats}
use Rattle.panel.specs.Checks.{first_no}
use Rattle.panel.proofs.CheckLaws.{all_ok, none_fails}
use Rattle.panel.proofs.ToldLaws.{handed_on}
use Rattle.panel.specs.Answer.{Done, Refused}
use Rattle.panel.specs.Verdict.{Fine, Against}
use Rattle.sides.specs.Tile.{tile_size}
use Rattle.coverage.specs.Coverage.{coverage_of}
use Rattle.coverage.specs.Ground.{ground_checks}
use Rattle.coverage.specs.Fill.{fill_checks, filled, fill_of}
use Rattle.coverage.proofs.Grounds.{ground_room}
use Rattle.coverage.proofs.fill.Goals as goal

-- what the checks say, where none fails
checked : (segs : List Float) (a first n : ℕ) → first_no (fill_checks segs a first n) ≡ Fine → (a ≡ tile_size) × (segment_floats * (first + n) ≤ length segs)
checked segs a first n e =
    let ok = all_ok (fill_checks segs a first n) e in
    (eqb-true _ _ ok.1.0, ground_room segs first n (none_fails (ground_checks segs first n) ok.1.1))

module _ (segs : List Float) (first n : ℕ) (eo : Bool) (z : ℤ) (xt yt : Float) (area : List Float) where
  no : (k : ℕ) → Against k ≡ first_no (fill_checks segs (length area) first n) → filled (Refused k 0) area ≡ fill_of segs first n eo z xt yt area
  unfolding fill_of
  no k e = rw (sym e)

  yes : (area' : List Float) → Fine ≡ first_no (fill_checks segs (length area) first n) → area' ≡ coverage_of segs first n eo z xt yt
      → filled Done area' ≡ fill_of segs first n eo z xt yt area
  unfolding fill_of
  yes area' e g = rw (sym e, g)

pub returns-in_err-check_fill : goal.returns-in_err-check_fill
returns-in_err-check_fill c = rw (handed_on _ _ c.from_residual.ensures.1) (no _ _ _ _ _ _ _ _ _ c.in_err-check_fill.ensures)

pub fill_path-requires : goal.fill_path-requires
fill_path-requires c = checked c.args.segments.now _ _ _ (sym c.in_ok-check_fill.ensures)

pub returns : goal.returns
returns c =
    let a = c.args in
    yes a.segments.now a.first a.number a.even_odd a.backdrop a.x_tile a.y_tile a.area.now _ c.in_ok-check_fill.ensures
    (c.fill_path.ensures ∙ ap (λ (z : ℤ). coverage_of a.segments.now a.first a.number a.even_odd z a.x_tile a.y_tile)
    (to_z-of_z w32 a.backdrop c.ranges.backdrop))
