-- The page beside path_tiling.rs is what the parts come to. Assumes nothing.
use Prim.Native.Nat.{ℕ}
use mathlib.Core.Path.{◌≡◌, refl}
use lib.Ieee.{Float}
use Rattle.walk.specs.Step.{z_at}
use Rattle.walk.specs.declared.kinds.Walk.{Walk}
use Rattle.segment.specs.Clips.{corner_of, far_of, at_row_of, at_col_of, clip_of, make_of, edge_of, off_of, turn_of, first_of, last_of, segment_of}
use Rattle.segment.specs.Page.{page_of}

pub by_parts : (w : Walk) (i : ℕ) (z : Float) (x y : ℕ) → segment_of w i z x y ≡ page_of w i z x y
unfolding z_at corner_of far_of at_row_of at_col_of clip_of make_of edge_of off_of turn_of first_of last_of segment_of page_of
by_parts w i z x y = refl
