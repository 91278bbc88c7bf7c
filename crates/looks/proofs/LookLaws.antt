-- What is known of the stages of a reference: its line's path, its step's tile. Assumes nothing.
use Prim.Native.Nat.{ℕ, ◌≤◌, ◌<◌}
use native.Mathlib.Omega.{arith}
use mathlib.Core.Path.{◌≡◌, refl}
use mathlib.Core.Bool.{Bool, true, false, cond}
use lib.IntN.{ℤ}
use lib.Ieee.{Float}
use Rattle.panel.specs.Limits.{edge_most}
use Rattle.panel.specs.Kinds.{tile_no_of}
use Rattle.panel.specs.Paths.{end_of, tile_of}
use Rattle.panel.specs.declared.kinds.Path.{Path}
use Rattle.panel.specs.declared.kinds.TileNo.{TileNo}
use Rattle.walk.specs.Num.{cut_of}
use Rattle.walk.specs.Step.{Boxed, tile_in, step_of}
use Rattle.walk.proofs.Walks.{StartsAt}
use Rattle.walk.proofs.Boxes.{ok_of, ok_told, told_within, tile_below}
use Rattle.walk.specs.declared.kinds.Pace.{Pace}
use Rattle.walk.specs.declared.kinds.Walk.{Walk}
use Rattle.walk.specs.Stepped.{Step}
use Rattle.walk.specs.Stepped.{Tile, Refused}
use Rattle.walk.specs.Walked.{Walked}
use Rattle.walk.specs.Walked.{Line}
use Rattle.looks.specs.Look.{StepFits, FoundFits}

pub tile_fits : {n : ℕ} {s : Step} {t : TileNo} {x y : ℕ} {z : Float} → s ≡ Tile t x y z → StepFits n s → (t.0 < n) × (x ≤ edge_most) × (y ≤ edge_most)
tile_fits e h = rw e at h

pub line_fits : {n : ℕ} {f : Walked} {w : Walk} {p : Path} → f ≡ Line w p → FoundFits n f → Boxed p × (end_of p ≤ n) × StartsAt w.pace
line_fits e h = rw e at h

-- a step's tile is in its path's box, so its number is in the path's range
tile_in_fits : (p : Path) (x y : ℤ) (z : Float) (n : ℕ) → Boxed p → end_of p ≤ n → StepFits n (tile_in p x y z)
unfolding tile_in
tile_in_fits p x y z n b h = go (ok_of p x y z) refl
  where
    go : (t : Bool) → ok_of p x y z ≡ t → StepFits n (cond t (Tile (tile_no_of (tile_of p (cut_of x) (cut_of y))) (cut_of x) (cut_of y) z) Refused)
    go true e =
        let w = told_within p x y z (ok_told p x y z e) in
        (omega (arith, tile_below p (cut_of x) (cut_of y) w), omega arith, omega arith)
    go false e = tt

pub step_fits : (q : Pace) (p : Path) (i n : ℕ) → Boxed p → end_of p ≤ n → StepFits n (step_of q p i)
unfolding step_of
step_fits q p i n b h = tile_in_fits p _ _ _ n b h
