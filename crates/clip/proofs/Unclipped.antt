-- A walk within its path's box is not clipped: all its steps are left, and no row is marked. Assumes nothing.
use Prim.Native.Nat.{min, max}
use native.Mathlib.Omega.{arith}
use mathlib.Core.Path.{◌≡◌, sym, ◌∙◌}
use mathlib.Core.Bool.{false}
use lib.Ieee.{lt}
use Rattle.float32.specs.Meaning.{min_of, max_of}
use Rattle.panel.specs.declared.kinds.Path.{Path}
use Rattle.walk.specs.Num.{float}
use Rattle.walk.specs.declared.kinds.Walk.{Walk}
use Rattle.clip.specs.Clip.{first_step_of, last_step_of, rows_of, by_left_of, by_right_of, cols_of, clip_of}
use Rattle.clip.specs.Page.{clipped_of, by_parts}
use Rattle.clip.specs.declared.Clip.{Clip}

-- it starts no higher than the box and ends no lower, none of it is left or right of it, and not all of it is left
pub record Unclipped (w : Walk) (b : Path) : Type 0 where
  pub from_top : lt w.e.s0.y (float b.y0) ≡ false
  pub to_bottom : lt (float b.y1) w.e.s1.y ≡ false
  pub from_left : lt (min_of w.e.s0.x w.e.s1.x) (float b.x0) ≡ false
  pub to_right : lt (float b.x1) (max_of w.e.s0.x w.e.s1.x) ≡ false
  pub not_left : lt (max_of w.e.s0.x w.e.s1.x) (float b.x0) ≡ false

-- all steps
abbrev pub all_of : Walk → Clip
all_of w = record { imin = 0; imax = w.k.count; ymin = 0; ymax = 0 }

module _ (w : Walk) (b : Path) (h : Unclipped w b) where
  rows_all : rows_of w b ≡ all_of w
  unfolding rows_of first_step_of last_step_of
  rows_all = rw (h.from_top, h.to_bottom)

  cols_all : (c : Clip) → cols_of w b c ≡ c
  unfolding cols_of by_left_of by_right_of
  cols_all c = rw (h.not_left, h.to_right, h.from_left)

  all_is : cols_of w b (rows_of w b) ≡ all_of w
  all_is = cols_all (rows_of w b) ∙ rows_all

  parts_unclipped : clip_of w b ≡ record { imin = 0; imax = w.k.count; ymin = b.y0; ymax = 0 }
  unfolding clip_of
  parts_unclipped =
      let m : max 0 w.k.count ≡ w.k.count = omega arith in
      let t : max 0 b.y0 ≡ b.y0 = omega arith in
      let z : min 0 b.y1 ≡ 0 = omega arith in
      rw (all_is, m, t, z)

  pub clip_inside : clipped_of w b ≡ record { imin = 0; imax = w.k.count; ymin = b.y0; ymax = 0 }
  clip_inside = sym (by_parts w b) ∙ parts_unclipped
