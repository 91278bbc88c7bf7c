-- `fine::fine` meets its contract. Assumes nothing.
use mathlib.Core.Path.{◌≡◌, sym, ap, ◌∙◌}
use mathlib.Core.List.{List}
use Prim.Native.Nat.{ℕ, ◌*◌, ◌≤◌}
use lib.ListN.{length}
use lib.Ieee.{Float}
use borrow.Author.Tests.{leb-true}
use Rattle.panel.specs.Checks.{first_no}
use Rattle.panel.specs.Limits.{most_tiles}
use Rattle.panel.proofs.CheckLaws.{all_ok}
use Rattle.panel.specs.Answer.{Answer}
use Rattle.panel.specs.Answer.{Refused}
use Rattle.panel.specs.Verdict.{Verdict, Fine, Against, verdict_told}
use Rattle.panel.proofs.ToldLaws.{handed_on}
use Rattle.sides.specs.Tile.{tile_width, tile_height}
use Rattle.fine.specs.Fine.{fine_checks, shown, shown_of, tiles_of, fine_of}
use Rattle.fine.proofs.fine.Goals as goal

-- what the checks say, where none fails
checked : (s w c r from to p : ℕ) → first_no (fine_checks s w c r from to p) ≡ Fine
    → (from ≤ to) × (to ≤ c * r) × (c * r ≤ most_tiles) × (tile_width * c ≤ w) × (w * (tile_height * r) ≤ p)
checked s w c r from to p e =
    let ok = all_ok (fine_checks s w c r from to p) e in
    (leb-true _ _ ok.1.0, leb-true _ _ ok.1.1.0, leb-true _ _ ok.1.1.1.0, leb-true _ _ ok.1.1.1.1.0, leb-true _ _ ok.1.1.1.1.1.0)

module _ (ws : List ℕ) (segs : List Float) (w c r from to : ℕ) (pixels : List ℕ) (v : Verdict) (e : v ≡ first_no (fine_checks (length segs) w c r from to (length pixels))) where
  no : (k : ℕ) → v ≡ Against k → shown (Refused k 0) pixels ≡ fine_of ws segs w c r from to pixels
  unfolding fine_of
  no k f = rw (sym e ∙ f)

  yes : (a : Answer) (after : List ℕ) → v ≡ Fine → shown a after ≡ shown_of (tiles_of ws segs w c from to pixels) → shown a after ≡ fine_of ws segs w c r from to pixels
  unfolding fine_of
  yes a after f g = rw (sym e ∙ f) g

pub returns-in_err-check_screen : goal.returns-in_err-check_screen
returns-in_err-check_screen c =
    let a = c.args in
    rw (handed_on _ _ c.from_residual.ensures.1)
    (no a.words.now a.segments.now a.width a.cols a.rows a.from a.to a.pixels.now _ c.check_screen.ensures _ (ap verdict_told c.in_err-check_screen.was))

pub tiles-requires : goal.tiles-requires
tiles-requires c =
    let a = c.args in
    checked (length a.segments.now) a.width a.cols a.rows a.from a.to (length a.pixels.now)
    (sym c.check_screen.ensures ∙ ap verdict_told c.in_ok-check_screen.was)

pub returns : goal.returns
returns c =
    let a = c.args in
    yes a.words.now a.segments.now a.width a.cols a.rows a.from a.to a.pixels.now _
    c.check_screen.ensures _ _ (ap verdict_told c.in_ok-check_screen.was) c.tiles.ensures
