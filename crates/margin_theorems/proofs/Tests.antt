-- A test that says whether lines are fit, for instances. Assumes nothing.
--     fit_all    where the test passes, the lines are fit
use mathlib.Core.Path.{◌≡◌, sym, subst}
use mathlib.Core.Bool.{Bool, true, ◌&&◌}
use mathlib.Core.List.{List}
use Prim.Native.Nat.{ℕ, zero, suc, ◌+◌, ◌<◌}
use native.Mathlib.Decide.{ℕ_discrete}
use native.Mathlib.Omega.{arith}
use lib.Dec.{ltb, leb}
use lib.ListN.{get_or}
use lib.Ieee.{Float}
use borrow.Author.Tests.{ltb-true, leb-true}
use Rattle.util.specs.declared.Vec2.{Vec2}
use Rattle.panel.specs.Limits.{most_lines}
use Rattle.panel.specs.Paths.{path_at, path_count}
use Rattle.panel.specs.declared.kinds.Path.{Path}
use Rattle.panel.proofs.BoolLaws.{both}
use Rattle.walk.specs.Lent.{line_at, reached_of}
use Rattle.margin.specs.Room.{tile_at, Inside}
use Rattle.margin_theorems.specs.Fit.{Fit}

abbrev across : Path → Vec2 → Bool
across b p = leb (b.x0 + 1) (tile_at p.x) && leb (tile_at p.x + 2) b.x1

abbrev down : Path → Vec2 → Bool
down b p = leb (b.y0 + 1) (tile_at p.y) && leb (tile_at p.y + 2) b.y1

abbrev inside_at : Path → Vec2 → Bool
inside_at b p = across b p && down b p

inside_of : (b : Path) (p : Vec2) → inside_at b p ≡ true → Inside b p
inside_of b p e =
    let s = both (across b p) (down b p) e in
    let x = both (leb (b.x0 + 1) (tile_at p.x)) (leb (tile_at p.x + 2) b.x1) s.0 in
    let y = both (leb (b.y0 + 1) (tile_at p.y)) (leb (tile_at p.y + 2) b.y1) s.1 in
    record {
      left = leb-true (b.x0 + 1) (tile_at p.x) x.0;
      right = leb-true (tile_at p.x + 2) b.x1 x.1;
      top = leb-true (b.y0 + 1) (tile_at p.y) y.0;
      bottom = leb-true (tile_at p.y + 2) b.y1 y.1;
    }

module _ (nos : List ℕ) (coords : List Float) (paths : List ℕ) where
  abbrev numbers : ℕ → Bool
  numbers l = ltb l most_lines && ltb (get_or nos l 0) (path_count paths)

  abbrev room : ℕ → Bool
  room l = inside_at (path_at paths (get_or nos l 0)) (line_at coords l).p0 && inside_at (path_at paths (get_or nos l 0)) (line_at coords l).p1

  abbrev fit_at : ℕ → Bool
  fit_at l = numbers l && (reached_of (line_at coords l).p0 (line_at coords l).p1 && room l)

  fit_of : (l : ℕ) → fit_at l ≡ true → Fit nos coords paths l
  fit_of l e =
      let b = path_at paths (get_or nos l 0) in
      let p0 = (line_at coords l).p0 in
      let p1 = (line_at coords l).p1 in
      let t = both (numbers l) (reached_of p0 p1 && room l) e in
      let n = both (ltb l most_lines) (ltb (get_or nos l 0) (path_count paths)) t.0 in
      let r = both (reached_of p0 p1) (room l) t.1 in
      let i = both (inside_at b p0) (inside_at b p1) r.1 in
      record {
        numbered = ltb-true l most_lines n.0;
        reached = r.0;
        there = ltb-true (get_or nos l 0) (path_count paths) n.1;
        margin = (inside_of b p0 i.0, inside_of b p1 i.1);
      }

  -- the first b lines
  abbrev pub all_fit : ℕ → Bool
  all_fit zero = true
  all_fit (suc b) = fit_at b && all_fit b

  pub fit_all : (b : ℕ) → all_fit b ≡ true → (l : ℕ) → l < b → Fit nos coords paths l
  fit_all zero e l h = absurd (omega arith)
  fit_all (suc b) e l h = let t = both (fit_at b) (all_fit b) e in go (ℕ_discrete l b) t.0 (fit_all b t.1 l)
    where
      go : Dec (l ≡ b) → fit_at b ≡ true → (l < b → Fit nos coords paths l) → Fit nos coords paths l
      go (yes q) f ih = subst (Fit nos coords paths) (sym q) (fit_of b f)
      go (no q) f ih = ih (omega arith)
