-- A line whose ends lie strictly within a tile of the box is neither skipped nor clipped. Assumes nothing.
use Rattle.std.proofs.Common.{◌≡◌, ℕ, ◌+◌, ◌^◌, ◌≤◌, Bool, true, false, ◌&&◌, ◌||◌, eqb, ◌⊎◌, sym, refl, ap, ◌∙◌, subst, inl, inr, arith, ne_eqb}
use lib.Ieee.{Float, binary32, add, sub, lt, le, eq}
use Rattle.float32.specs.Meaning.{floor_of, min_of, max_of, abs_of}
use Rattle.float32.proofs.MinMax.{min_picks, max_picks}
use Rattle.util.specs.Constants.{zero}
use Rattle.util.specs.declared.Vec2.{Vec2}
use Rattle.panel.specs.declared.kinds.Path.{Path}
use Rattle.panel.proofs.LimitLaws.{small}
use Rattle.walk.specs.Num.{float}
use Rattle.walk.specs.Setup.{slope_of}
use Rattle.walk.specs.Skip.{flat_of, past_of}
use Rattle.walk.specs.Step.{Boxed, Within}
use Rattle.walk.specs.declared.kinds.Walk.{Walk}
use Rattle.clip.specs.Page.{clipped_of}
use Rattle.clip.proofs.Unclipped.{Unclipped, clip_inside}
use Rattle.spot.proofs.InTile.{not_before, not_past, not_from, off_edge}
use Rattle.spot.proofs.Slope.{Spotted, total_stands, stands_some}

either : (a b m : Float) (P : Float → Type 0) → (m ≡ a) ⊎ (m ≡ b) → P a → P b → P m
either a b m P (inl e) p q = subst P (sym e) p
either a b m P (inr e) p q = subst P (sym e) q

no_both : (a b : Bool) → b ≡ false → (a && b) ≡ false
no_both false b e = refl
no_both true b e = e

module _ (s0 s1 : Vec2) (x y : ℕ) (h : Spotted s0 s1 x y) (b : Path) (k : Boxed b) (w : Within b x y) where
  x1_few : b.x1 ≤ 2 ^ 24
  x1_few = omega (arith, k.wide, small.edge)

  y1_few : b.y1 ≤ 2 ^ 24
  y1_few = omega (arith, k.high, small.edge)

  x0_few : b.x0 ≤ 2 ^ 24
  x0_few = omega (arith, k.left, x1_few)

  y0_few : b.y0 ≤ 2 ^ 24
  y0_few = omega (arith, k.top, y1_few)

  right : x + 1 ≤ b.x1
  right = omega (arith, w.col_most)

  bottom : y + 1 ≤ b.y1
  bottom = omega (arith, w.row_most)

  -- ---- not skipped
  some_length : lt s1.y s0.y ≡ false → eq (add binary32 (abs_of (sub binary32 s1.x s0.x)) (sub binary32 s1.y s0.y)) zero ≡ false
  unfolding slope_of
  some_length ordered = stands_some (add binary32 (abs_of (sub binary32 s1.x s0.x)) (sub binary32 s1.y s0.y)) (total_stands s0 s1 x y h ordered)

  pub not_flat : lt s1.y s0.y ≡ false → flat_of s0 s1 ≡ false
  unfolding flat_of
  not_flat ordered =
      ap (λ (t : Bool). t || (eq (sub binary32 s1.y s0.y) zero && eq (floor_of s0.y) s0.y))
      (some_length ordered)
      ∙ no_both (eq (sub binary32 s1.y s0.y) zero) (eq (floor_of s0.y) s0.y) (off_edge s0.y y h.start_y (omega (arith, bottom, y1_few)))

  pub not_beyond : past_of s0 s1 b ≡ false
  unfolding past_of
  not_beyond =
      rw (not_from s0.y y h.start_y b.y1 bottom y1_few, not_before s1.y y h.end_y b.y0 w.row_least y0_few, least, wide) refl
    where
      wide : eqb b.x1 b.x0 ≡ false
      wide = ne_eqb b.x1 b.x0 (λ e. omega (arith, w.col_least, right))

      least : le (float b.x1) (min_of s0.x s1.x) ≡ false
      least =
          either s0.x s1.x (min_of s0.x s1.x) (λ (v : Float). le (float b.x1) v ≡ false) (min_picks s0.x s1.x) (not_from s0.x x h.start_x b.x1 right x1_few)
          (not_from s1.x x h.end_x b.x1 right x1_few)

  -- ---- not clipped
  abbrev least : Float
  least = min_of s0.x s1.x

  abbrev most : Float
  most = max_of s0.x s1.x

  left_first : lt s0.x (float b.x0) ≡ false
  left_first = not_before s0.x x h.start_x b.x0 w.col_least x0_few

  left_last : lt s1.x (float b.x0) ≡ false
  left_last = not_before s1.x x h.end_x b.x0 w.col_least x0_few

  left_min : lt least (float b.x0) ≡ false
  left_min = either s0.x s1.x least (λ (v : Float). lt v (float b.x0) ≡ false) (min_picks s0.x s1.x) left_first left_last

  left_max : lt most (float b.x0) ≡ false
  left_max = either s0.x s1.x most (λ (v : Float). lt v (float b.x0) ≡ false) (max_picks s0.x s1.x) left_first left_last

  right_max : lt (float b.x1) most ≡ false
  right_max =
      either s0.x s1.x most (λ (v : Float). lt (float b.x1) v ≡ false) (max_picks s0.x s1.x) (not_past s0.x x h.start_x b.x1 right x1_few)
      (not_past s1.x x h.end_x b.x1 right x1_few)

  top_clear : lt s0.y (float b.y0) ≡ false
  top_clear = not_before s0.y y h.start_y b.y0 w.row_least y0_few

  bottom_clear : lt (float b.y1) s1.y ≡ false
  bottom_clear = not_past s1.y y h.end_y b.y1 bottom y1_few

  module _ (v : Walk) (e0 : v.e.s0 ≡ s0) (e1 : v.e.s1 ≡ s1) (n : v.k.count ≡ 1) where
    inside : Unclipped v b
    inside = record {
      from_top = rw e0 top_clear;
      to_bottom = rw e1 bottom_clear;
      from_left = rw (e0, e1) left_min;
      to_right = rw (e0, e1) right_max;
      not_left = rw (e0, e1) left_max;
    }

    pub not_clipped : clipped_of v b ≡ record { imin = 0; imax = 1; ymin = b.y0; ymax = 0 }
    not_clipped = clip_inside v b inside ∙ ap (λ (m : ℕ). record { imin = 0; imax = m; ymin = b.y0; ymax = 0 }) n
