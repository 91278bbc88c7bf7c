-- Every end lies in its path's box; and with a margin of a tile or more, lines that lie a tile and more from 0 and from the edge limit are fit to be counted.
-- Assumes nothing.
--     ends_within   every end of a path's lines lies in its box
--     lines-fit     the premise of margin_theorems
use mathlib.Core.Path.{◌≡◌, refl, ap, ◌∙◌}
use mathlib.Core.Bool.{cond}
use mathlib.Core.List.{List, ◌∷◌, map}
use Prim.Native.Nat.{ℕ, zero, suc, ◌+◌, ◌≤◌, ◌<◌, min, max}
use native.Mathlib.Decide.{ℕ_discrete}
use native.Mathlib.Omega.{arith}
use lib.Dec.{eqb}
use lib.ListN.{length, get_or}
use lib.Ieee.{Float}
use borrow.Author.Tests.{eq-eqb, ne_eqb}
use Rattle.util.specs.declared.Vec2.{Vec2}
use Rattle.panel.specs.Lines.{line_at}
use Rattle.panel.specs.Paths.{path_at}
use Rattle.margin_theorems.specs.Fit.{Fit}
use Rattle.end_tiles.specs.Lines.{tile_at, LineOk}
use Rattle.boxes.specs.Boxes.{ends_from, box_of, tiles_of, BoxesMet}
use Rattle.boxes.specs.Boxed.{Done}
use Rattle.end_tiles.proofs.LineLaws.{each_line}
use Rattle.box_theorems.specs.Made.{Within, InnerLine}
use Rattle.box_theorems.proofs.Ways.{made_told}
use Rattle.box_theorems.proofs.Around.{Between, held, roomy}
use Rattle.box_theorems.proofs.Paths.{made_at, made_count}

-- ---- the ends of a line among those of its path

least_two : (a b s t : ℕ) → (t ≡ a) → min a (min b s) ≤ t
least_two a b s t e = omega arith

least_then : (a b s t : ℕ) → (t ≡ b) → min a (min b s) ≤ t
least_then a b s t e = omega arith

past_two : (a b s t : ℕ) → (t ≡ a) → t < max (suc a) (max (suc b) s)
past_two a b s t e = omega arith

past_then : (a b s t : ℕ) → (t ≡ b) → t < max (suc a) (max (suc b) s)
past_then a b s t e = omega arith

wider_low : (a b s t : ℕ) → s ≤ t → min a (min b s) ≤ t
wider_low a b s t h = omega arith

wider_high : (a b s t : ℕ) → t < s → t < max (suc a) (max (suc b) s)
wider_high a b s t h = omega arith

module _ (nos : List ℕ) (coords : List Float) (f : Vec2 → ℕ) where
  -- both ends of line l, among the ends of so many lines from line j on
  pub Both : (k more j l : ℕ) → Type 0
  Both k more j l = Between (f (line_at coords l).p0) (map f (ends_from nos coords k more j)) × Between (f (line_at coords l).p1) (map f (ends_from nos coords k more j))

  pub both_in : (k more j l : ℕ) → j ≤ l → l < j + more → get_or nos l 0 ≡ k → Both k more j l
  unfolding ends_from Both
  both_in k zero j l a b e = absurd (omega arith)
  both_in k (suc more) j l a b e = go (ℕ_discrete j l) (ℕ_discrete (get_or nos j 0) k) (both_in k more (suc j) l)
    where
      rest : List Vec2
      rest = ends_from nos coords k more (suc j)

      go : Dec (j ≡ l) → Dec (get_or nos j 0 ≡ k) → (suc j ≤ l → l < suc j + more → get_or nos l 0 ≡ k → Both k more (suc j) l)
          → Between (f (line_at coords l).p0) (map f (cond (eqb (get_or nos j 0) k) ((line_at coords j).p0 ∷ (line_at coords j).p1 ∷ ends_from nos coords k more (suc j)) (ends_from nos
          coords k more (suc j))))
          × Between (f (line_at coords l).p1) (map f (cond (eqb (get_or nos j 0) k) ((line_at coords j).p0 ∷ (line_at coords j).p1 ∷ ends_from nos coords k more (suc j)) (ends_from nos
          coords k more (suc j))))
      go (yes s) (yes q) ih =
          let x = f (line_at coords j).p0 in
          let y = f (line_at coords j).p1 in
          rw (eq-eqb (get_or nos j 0) k q, ← s) (
            record { low = least_two x y _ x refl; high = past_two x y _ x refl },
            record { low = least_then x y _ y refl; high = past_then x y _ y refl },
          )
      go (yes s) (no q) ih = absurd (q (ap (λ (i : ℕ). get_or nos i 0) s ∙ e))
      go (no s) (yes q) ih =
          let r = ih (omega arith) (omega arith) e in
          let x = f (line_at coords j).p0 in
          let y = f (line_at coords j).p1 in
          rw (eq-eqb (get_or nos j 0) k q) (
            record { low = wider_low x y _ _ r.0.low; high = wider_high x y _ _ r.0.high },
            record { low = wider_low x y _ _ r.1.low; high = wider_high x y _ _ r.1.high },
          )
      go (no s) (no q) ih = rw (ne_eqb (get_or nos j 0) k q) (ih (omega arith) (omega arith) e)

-- ---- the paths made

module _ (nos : List ℕ) (coords : List Float) (beams : List ℕ) (m : ℕ) (paths work : List ℕ) (tiles : ℕ) (ps us : List ℕ)
    (met : BoxesMet nos coords beams m paths work (Done tiles) ps us) (l : ℕ) (there : l < length nos) where
  ok : LineOk (line_at coords l) (get_or nos l 0) (length beams) l
  ok = each_line nos coords (length beams) (length nos) 0 (made_told nos coords beams m paths work tiles ps us met).lines l (omega arith) (omega arith)

  box_is : path_at ps (get_or nos l 0) ≡ box_of nos coords m (get_or nos l 0) (tiles_of nos coords m (get_or nos l 0))
  box_is = made_at nos coords beams m paths work tiles ps us met (get_or nos l 0) ok.there

  -- Every end of a path's lines lies in its box
  pub ends_within : Within (path_at ps (get_or nos l 0)) (line_at coords l).p0 × Within (path_at ps (get_or nos l 0)) (line_at coords l).p1
  unfolding Both
  ends_within =
      let k = get_or nos l 0 in
      let x = both_in nos coords (λ p. tile_at p.x) k (length nos) 0 l (omega arith) (omega arith) refl in
      let y = both_in nos coords (λ p. tile_at p.y) k (length nos) 0 l (omega arith) (omega arith) refl in
      let es = ends_from nos coords k (length nos) 0 in
      rw box_is (
        held m (tiles_of nos coords m k) es (line_at coords l).p0 x.0 y.0 ok.p0x ok.p0y,
        held m (tiles_of nos coords m k) es (line_at coords l).p1 x.1 y.1 ok.p1x ok.p1y,
      )

  -- With a margin, a line that lies well inside is fit
  pub line_fit : 1 ≤ m → InnerLine coords l → Fit nos coords ps l
  unfolding Both
  line_fit h i =
      let k = get_or nos l 0 in
      let x = both_in nos coords (λ p. tile_at p.x) k (length nos) 0 l (omega arith) (omega arith) refl in
      let y = both_in nos coords (λ p. tile_at p.y) k (length nos) 0 l (omega arith) (omega arith) refl in
      let es = ends_from nos coords k (length nos) 0 in
      record {
        numbered = ok.numbered;
        reached = ok.reached;
        there = omega (arith, ok.there, made_count nos coords beams m paths work tiles ps us met);
        margin =
            rw box_is (
              roomy m (tiles_of nos coords m k) h es (line_at coords l).p0 x.0 y.0 i.p0,
              roomy m (tiles_of nos coords m k) h es (line_at coords l).p1 x.1 y.1 i.p1,
            );
      }
