-- A step's piece by what is at hand is its piece. Assumes nothing.
--     corner_is    the corner from the walk's floats is that of the step's tile
--     piece_is     the piece by the step's z's
use mathlib.Core.Path.{◌≡◌, refl, ap, ◌∙◌}
use Prim.Native.Nat.{ℕ, ◌<◌}
use lib.Ieee.{Float}
use Rattle.panel.specs.Widths.{step_range}
use Rattle.panel.specs.declared.kinds.Path.{Path}
use Rattle.panel.specs.declared.kinds.TileNo.{TileNo}
use Rattle.walk.specs.Num.{float}
use Rattle.walk.specs.Step.{Boxed, z_at, step_of}
use Rattle.carry.specs.Carry.{zs_of}
use Rattle.walk.specs.declared.kinds.Pace.{Pace}
use Rattle.walk.specs.declared.kinds.Walk.{Walk}
use Rattle.walk.specs.Stepped.{Tile}
use Rattle.walk.proofs.Walks.{StartsAt}
use Rattle.walk.proofs.Tiles.{step_told}
use Rattle.carry.proofs.Corners.{step_floats}
use Rattle.segment.specs.Clips.{corner_of, first_of, last_of, segment_of, piece_of}
use Rattle.segment.specs.By.{corner_at, first_by, last_by, segment_by, piece_by}

pub corner_is : (p : Pace) → StartsAt p → (b : Path) → Boxed b → (i : ℕ) → i < step_range → (t : TileNo) (x y : ℕ) (z : Float)
    → step_of p b i ≡ Tile t x y z → corner_at p i (z_at p.a p.b (float i)) ≡ corner_of x y
unfolding corner_at corner_of
corner_is p l b k i h t x y z e =
    let f = step_floats p l b k i h t x y z e in
    rw (f.0, f.1)

-- by the step's z's
by_zs : (w : Walk) (i x y : ℕ) → piece_by w (zs_of w.pace i) (corner_of x y) ≡ piece_of w i (z_at w.pace.a w.pace.b (float i)) x y
unfolding first_by last_by segment_by piece_by first_of last_of segment_of piece_of
by_zs w i x y = refl

pub piece_is : (w : Walk) → StartsAt w.pace → (b : Path) → Boxed b → (i : ℕ) → i < step_range → (t : TileNo) (x y : ℕ) (z : Float)
    → step_of w.pace b i ≡ Tile t x y z → piece_by w (zs_of w.pace i) (corner_at w.pace i (z_at w.pace.a w.pace.b (float i))) ≡ piece_of w i z x y
piece_is w l b k i h t x y z e =
    ap (piece_by w (zs_of w.pace i)) (corner_is w.pace l b k i h t x y z e)
    ∙ by_zs w i x y
    ∙ ap (λ (f : Float). piece_of w i f x y) (step_told w.pace b i t x y z e).is_z
