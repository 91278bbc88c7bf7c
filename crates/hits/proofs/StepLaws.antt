-- Where a step of a walk falls: what its tile tells.
-- Assumes nothing.
use mathlib.Core.Path.{◌≡◌, refl, sym, ap, ◌∙◌}
use mathlib.Core.Bool.{Bool, true, false, cond}
use Prim.Native.Nat.{ℕ, ◌+◌, ◌<◌}
use native.Mathlib.Omega.{arith}
use lib.Dec.{eqb, ltb}
use lib.Ieee.{Float, eq}
use borrow.Author.Tests.{ltb-true}
use Rattle.panel.proofs.BoolLaws.{both}
use Rattle.panel.specs.Widths.{step_range}
use Rattle.panel.specs.Paths.{width_of, end_of}
use Rattle.panel.specs.declared.kinds.Path.{Path}
use Rattle.panel.specs.declared.kinds.TileNo.{TileNo}
use Rattle.walk.specs.Step.{Boxed, step_of, last_z_word, cross_of}
use Rattle.walk.specs.declared.kinds.Pace.{Pace}
use Rattle.walk.specs.Stepped.{Step}
use Rattle.walk.specs.Stepped.{Tile, Refused}
use Rattle.walk.proofs.Tiles.{tile_in_lem, mark_in, mark_right, tile_once}
use Rattle.walk.proofs.Walks.{StartsAt}
use Rattle.acts.specs.Acts.{on, off}
use Rattle.acts.proofs.Plans.{Apart}
use Rattle.hits.specs.Steps.{hit_of, hit_at}

module _ (w : Pace) (b : Path) (i : ℕ) where
  pub hit_off : step_of w b i ≡ Refused → hit_at w b i ≡ off
  unfolding hit_at
  hit_off e = rw e

  module _ (t : TileNo) (x y : ℕ) (z : Float) (e : step_of w b i ≡ Tile t x y z) where
    -- the step's hit, by the test that a loop makes with the z that it carried
    pub hit_on : (last : Float) (c : Bool) → last ≡ last_z_word w i → c ≡ cross_of w.on_top b.x1 i last x z → hit_at w b i ≡ on t.0 c
    unfolding hit_at
    hit_on last c l k = rw (e, k, l)

    -- one that marks has a tile right of it in its row
    pub cross_right : (last : Float) (c : Bool) → c ≡ cross_of w.on_top b.x1 i last x z → c ≡ true → x + 1 < b.x1
    cross_right last c k h = ltb-true (x + 1) b.x1 (both (cond (eqb i 0) w.on_top (eq last z)) (ltb (x + 1) b.x1) (sym k ∙ h)).1

    -- so the tile that it marks, or its own where it marks none, is in its path's range
    pub next_below : (last : Float) (c : Bool) → c ≡ cross_of w.on_top b.x1 i last x z → cond c (t.0 + 1) t.0 < end_of b
    next_below last c k = go c refl
      where
        go : (m : Bool) → c ≡ m → cond m (t.0 + 1) t.0 < end_of b
        go true h = mark_in w b i t x y z e (cross_right last c k h)
        go false h = (tile_in_lem w b i t x y z e).1

-- ---- the steps of a walk that starts as a checked line does

-- a hit on a tile comes from a step on it
pub record Hitting (w : Pace) (b : Path) (i n : ℕ) (c : Bool) : Type 0 where
  pub t : TileNo
  pub x : ℕ
  pub y : ℕ
  pub z : Float
  pub fell : step_of w b i ≡ Tile t x y z
  pub number : t.0 ≡ n
  pub marks : c ≡ cross_of w.on_top b.x1 i (last_z_word w i) x z

pub hitting : (w : Pace) (b : Path) (i n : ℕ) (c : Bool) → hit_at w b i ≡ on n c → Hitting w b i n c
unfolding hit_at
hitting w b i n c e = go (step_of w b i) refl e
  where
    go : (s : Step) → step_of w b i ≡ s → hit_of w b i s ≡ on n c → Hitting w b i n c
    go (Tile t x y z) f g = record { t = t; x = x; y = y; z = z; fell = f; number = cc; marks = cc }
    go Refused f g = let q : ◌≡◌ {A = ℕ} 0 1 = cc in absurd (omega arith)

-- no two on one tile, and no mark in the first column
pub apart : (w : Pace) (b : Path) → StartsAt w → Boxed b → Apart (hit_at w b) step_range b.first (width_of b)
apart w b l k =
    record {
      one =
          λ i j t x y p q e f.
          let a = hitting w b i t x e in
          let d = hitting w b j t y f in
          tile_once w l b k i j p q a.t d.t a.x a.y d.x d.y a.z d.z a.fell d.fell (a.number ∙ sym d.number);
      right =
          λ i t r p e.
          let a = hitting w b i t true e in
          let m = mark_right w b i a.t a.x a.y a.z a.fell r (cross_right w b i a.t a.x a.y a.z a.fell (last_z_word w i) true a.marks refl) in
          λ d. m (ap (λ (n : ℕ). n + 1) a.number ∙ d);
    }
