-- What clipping leaves of a walk: steps in order, and rows within the box. Assumes nothing.
use Prim.Native.Nat.{◌≤◌}
use native.Mathlib.Omega.{arith}
use mathlib.Core.Path.{subst}
use Rattle.panel.specs.declared.kinds.Path.{Path}
use Rattle.walk.specs.declared.kinds.Walk.{Walk}
use Rattle.clip.specs.Clip.{clip_of}
use Rattle.clip.specs.Page.{clipped_of, by_parts}
use Rattle.clip.specs.declared.Clip.{Clip}

pub record Left (b : Path) (c : Clip) : Type 0 where
  pub onward : c.imin ≤ c.imax
  pub top : b.y0 ≤ c.ymin
  pub bottom : c.ymax ≤ b.y1

parts_left : (w : Walk) (b : Path) → Left b (clip_of w b)
unfolding clip_of
parts_left w b = record { onward = omega arith; top = omega arith; bottom = omega arith }

pub clip_left : (w : Walk) (b : Path) → Left b (clipped_of w b)
clip_left w b = subst (Left b) (by_parts w b) (parts_left w b)
