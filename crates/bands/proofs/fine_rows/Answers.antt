-- `bands::fine_rows` meets its contract. Assumes nothing.
use mathlib.Core.Path.{◌≡◌, sym, ap, ◌∙◌}
use mathlib.Core.List.{List}
use Prim.Native.Nat.{ℕ, ◌+◌, ◌-◌, ◌*◌, ◌^◌, ◌≤◌, ◌<◌}
use native.Mathlib.Nat.{mul-le-mul}
use native.Mathlib.Omega.{arith}
use lib.ListN.{length}
use lib.Ieee.{Float}
use borrow.Author.Tests.{leb-true}
use Rattle.panel.specs.Checks.{first_no}
use Rattle.panel.specs.Limits.{most_tiles}
use Rattle.panel.proofs.CheckLaws.{all_ok}
use Rattle.panel.specs.Answer.{Answer}
use Rattle.panel.specs.Answer.{Refused}
use Rattle.panel.specs.Verdict.{Verdict, Fine, Against, verdict_told}
use Rattle.panel.proofs.ToldLaws.{handed_on}
use Rattle.sides.specs.Tile.{tile_width, tile_height}
use Rattle.fine.specs.Fine.{shown, shown_of}
use Rattle.bands.specs.Bands.{band_checks, band_tiles, band_of}
use Rattle.bands.proofs.BandLaws.{tiles_fit}
use borrow.Author.Rules.{rules}
use Rattle.bands.proofs.fine_rows.Goals as goal

product : (a b : ℕ) → a < 2 ^ 32 → b < 2 ^ 32 → a * b < 2 ^ 64
product a b p q = omega (arith, mul-le-mul {n₁ = a} {m₁ = b} {n₂ = 4294967295} {m₂ = 4294967295} (omega arith) (omega arith))

-- what the checks say, where none fails
ordered : (s w c r first end p : ℕ) → first_no (band_checks s w c r first end p) ≡ Fine → first ≤ end
ordered s w c r first end p e = leb-true _ _ (all_ok (band_checks s w c r first end p) e).1.0

checked : (s w c r first end p : ℕ) → first_no (band_checks s w c r first end p) ≡ Fine
    → (c * first + c * (end - first) ≤ most_tiles) × (tile_width * c ≤ w) × (w * (tile_height * (end - first)) ≤ p)
checked s w c r first end p e =
    let ok = all_ok (band_checks s w c r first end p) e in
    (tiles_fit c r first end (leb-true _ _ ok.1.0) (leb-true _ _ ok.1.1.0) (leb-true _ _ ok.1.1.1.0), leb-true _ _ ok.1.1.1.1.0, leb-true _ _ ok.1.1.1.1.1.0)

module _ (ws : List ℕ) (segs : List Float) (w c r first end : ℕ) (pixels : List ℕ) (v : Verdict) (e : v ≡ first_no (band_checks (length segs) w c r first end (length pixels))) where
  no : (k : ℕ) → v ≡ Against k → shown (Refused k 0) pixels ≡ band_of ws segs w c r first end pixels
  unfolding band_of
  no k f = rw (sym e ∙ f)

  yes : (a : Answer) (after : List ℕ) → v ≡ Fine → shown a after ≡ shown_of (band_tiles ws segs w c (c * first) 0 (c * (end - first)) pixels) → shown a after ≡ band_of ws segs w c r first end pixels
  unfolding band_of
  yes a after f g = rw (sym e ∙ f) g

pub returns-in_err-check_rows : goal.returns-in_err-check_rows
returns-in_err-check_rows c =
    let a = c.args in
    rw (handed_on _ _ c.from_residual.ensures.1)
    (no a.words.now a.segments.now a.width a.cols a.rows a.first a.end a.pixels.now _ c.check_rows.ensures _ (ap verdict_told c.in_err-check_rows.was))

pub overflow_sub-own : goal.overflow_sub-own
overflow_sub-own c =
    let a = c.args in
    ordered (length a.segments.now) a.width a.cols a.rows a.first a.end (length a.pixels.now)
    (sym c.check_rows.ensures ∙ ap verdict_told c.in_ok-check_rows.was)

pub overflow_mul-base : goal.overflow_mul-base
overflow_mul-base c = record { fits = product _ _ (search rules) (search rules) }

pub tiles-requires : goal.tiles-requires
tiles-requires c =
    let a = c.args in
    checked (length a.segments.now) a.width a.cols a.rows a.first a.end (length a.pixels.now)
    (sym c.check_rows.ensures ∙ ap verdict_told c.in_ok-check_rows.was)

pub returns : goal.returns
returns c =
    let a = c.args in
    yes a.words.now a.segments.now a.width a.cols a.rows a.first a.end a.pixels.now _
    c.check_rows.ensures _ _ (ap verdict_told c.in_ok-check_rows.was) c.tiles.ensures
