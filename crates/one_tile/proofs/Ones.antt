-- A line within one tile as it is lent: paths that passed their checks, and what the tests of its tile and of the room tell.
-- Assumes nothing.
use mathlib.Core.Path.{◌≡◌, refl, sym, ap, ◌∙◌, subst}
use mathlib.Core.Bool.{Bool, true, false, ◌||◌, false≢true}
use mathlib.Core.List.{List}
use Prim.Native.Nat.{ℕ, ◌/◌, ◌<◌}
use native.Mathlib.Omega.{arith}
use lib.Dec.{leb}
use lib.ListN.{length, get_or}
use lib.Ieee.{Float}
use borrow.Author.Tests.{leb-false}
use Rattle.panel.specs.Limits.{most_count, most_slots}
use Rattle.panel.specs.Lines.{line_at}
use Rattle.panel.specs.declared.lines.LineEnds.{LineEnds}
use Rattle.panel.specs.Paths.{path_at, path_count, paths_answer, tile_of}
use Rattle.panel.specs.Widths.{ref_words}
use Rattle.panel.specs.Answer.{Done}
use Rattle.panel.specs.declared.kinds.Path.{Path}
use Rattle.panel.specs.declared.kinds.TileNo.{TileNo}
use Rattle.panel.proofs.PathLaws.{checked}
use Rattle.walk.specs.Num.{float}
use Rattle.walk.specs.Page.{line_of}
use Rattle.walk.specs.Step.{z_at}
use Rattle.walk.specs.Walked.{Line}
use Rattle.walk.specs.Stepped.{Tile}
use Rattle.walk.proofs.Boxes.{fits_boxed, tile_below}
use Rattle.walk.proofs.Lines.{goes}
use Rattle.spot.specs.Spot.{SpotMet}
use Rattle.spot.specs.Place.{Spot}
use Rattle.spot.specs.Place.{In as SpotIn, Other as SpotOther}
use Rattle.one_tile.specs.One.{Boxes, SpotAt, Alone}

pub boxes : (paths : List ℕ) (tiles : ℕ) → paths_answer paths tiles ≡ Done → Boxes paths
boxes paths tiles e = λ k h. let c = checked paths tiles e in fits_boxed (path_at paths k) tiles c.tiled (c.fits k h)

-- what is said of the line and the path that were read is said of those lent
pub met : (nos : List ℕ) (coords : List Float) (paths : List ℕ) (k : ℕ) (line : LineEnds) (b : Path) (r : Spot) → line ≡ line_at coords k → b ≡ path_at paths (get_or nos k 0)
    → get_or nos k 0 < path_count paths → SpotMet line.p0 line.p1 b r → SpotAt nos coords paths k r
met nos coords paths k line b (SpotIn t x y) e f h s =
    (h, subst (λ (p : Path). SpotMet (line_at coords k).p0 (line_at coords k).p1 p (SpotIn t x y)) f (subst (λ (l : LineEnds). SpotMet l.p0 l.p1 b (SpotIn t x y)) e s))
met nos coords paths k line b SpotOther e f h s = tt

-- three tests, none of which holds
pub none : (a b c d e f : ℕ) → (leb a b || leb c d || leb e f) ≡ false → (b < a) × (d < c) × (f < e)
none a b c d e f h = go (leb a b) refl (leb c d) refl (leb e f) refl h
  where
    go : (p : Bool) → leb a b ≡ p → (q : Bool) → leb c d ≡ q → (r : Bool) → leb e f ≡ r → (p || q || r) ≡ false → (b < a) × (d < c) × (f < e)
    go false i false j false k g = (leb-false a b i, leb-false c d j, leb-false e f k)
    go true i q j r k g = absurd (false≢true (sym g))
    go false i true j r k g = absurd (false≢true (sym g))
    go false i false j true k g = absurd (false≢true (sym g))

module _ (nos : List ℕ) (coords : List Float) (paths : List ℕ) (k : ℕ) (t : TileNo) (x y : ℕ) (s : SpotAt nos coords paths k (SpotIn t x y)) where
  -- its tile is among those lent
  pub tile_lent : (tiles : ℕ) → paths_answer paths tiles ≡ Done → t.0 < tiles
  tile_lent tiles e =
      let b = path_at paths (get_or nos k 0) in
      let n : t.0 ≡ tile_of b x y = ap (λ (u : TileNo). u.0) s.1.0 in
      omega (arith, n, (tile_below b x y s.1.1.within).1, ((checked paths tiles e).fits (get_or nos k 0) s.0).within)

  -- and where the tests go through, it may be counted
  pub alone : (made refs : ℕ) (counts : List ℕ) → paths_answer paths (length counts) ≡ Done → made < refs / ref_words → made < most_slots → get_or counts t.0 0 < most_count
      → Alone nos coords paths k made counts refs t
  alone made refs counts e r m f =
      let b = path_at paths (get_or nos k 0) in
      let w = line_of (line_at coords k).p0 (line_at coords k).p1 in
      let o = s.1.1 in
      record {
        w = w;
        b = b;
        x = x;
        y = y;
        z = z_at w.pace.a w.pace.b (float 0);
        walked = sym (goes nos coords paths k (line_at coords k) refl (Line w b) o.reached s.0 (sym o.walked));
        falls = o.falls ∙ ap (λ (u : TileNo). Tile u x y (z_at w.pace.a w.pace.b (float 0))) (sym s.1.0);
        below_top = o.below_top;
        clipped = o.clipped;
        lent = tile_lent (length counts) e;
        free = f;
        room = omega (arith, r);
        few = m;
      }
