-- A checked line's ends in tiles, and its count of steps: one at least, and few enough that no sum wraps and a float holds it. Assumes nothing.
--     ends_scaled    the ends of a checked line
--     counts_few     its count
use Prim.Native.Nat.{ℕ, ◌*◌, ◌≤◌, ◌<◌, ◌^◌}
use native.Mathlib.Omega.{arith}
use mathlib.Core.Path.{◌≡◌}
use mathlib.Core.Bool.{Bool, true, false, cond, ◌&&◌}
use lib.Dec.{T, le→leb}
use lib.IntN.{pos}
use lib.Ieee.{binary32, le, in_float}
use Rattle.util.specs.Constants.{tile_scale}
use Rattle.util.specs.Vec.{scale_of}
use Rattle.util.specs.declared.Vec2.{Vec2}
use Rattle.panel.proofs.BoolLaws.{both}
use Rattle.exact.specs.Reach.{in_reach, coord_tiles}
use Rattle.exact.proofs.Limits.{far}
use Rattle.exact.proofs.Bounds.{near_of, span_least, span_most}
use Rattle.walk.specs.Setup.{Scaled, ends_of, counts_of}
use Rattle.walk.specs.Lent.{Reached}

-- ---- the ends
pub scaled_of : (p : Vec2) → (in_reach p.x && in_reach p.y) ≡ true → Scaled (scale_of p tile_scale)
scaled_of p h =
    let b = both (in_reach p.x) (in_reach p.y) h in
    record { in_x = near_of p.x b.0; in_y = near_of p.y b.1 }

pub ends_scaled : (p0 p1 : Vec2) → Reached p0 p1 → Scaled (ends_of p0 p1).s0 × Scaled (ends_of p0 p1).s1
unfolding ends_of
ends_scaled p0 p1 h =
    let b = both (in_reach p0.x && in_reach p0.y) (in_reach p1.x && in_reach p1.y) h in
    go (le p0.y p1.y) (scaled_of p0 b.0) (scaled_of p1 b.1)
  where
    go : (d : Bool) → Scaled (scale_of p0 tile_scale) → Scaled (scale_of p1 tile_scale) → Scaled (scale_of (cond d p0 p1) tile_scale) × Scaled (scale_of (cond d p1 p0) tile_scale)
    go true f g = (f, g)
    go false f g = (g, f)

-- ---- the count
pub record Few (count_x_lem count : ℕ) : Type 0 where
  pub some : 1 ≤ count
  pub more : count_x_lem < count
  pub most : count < 4 * coord_tiles
  pub exact : count ≤ 4 * 2 ^ 20

pub counts_few : (s0 s1 : Vec2) → Scaled s0 → Scaled s1 → Few (counts_of s0 s1).count_x (counts_of s0 s1).count
unfolding counts_of
counts_few s0 s1 h k =
    let a = span_most s0.x s1.x h.in_x k.in_x in
    let b = span_most s0.y s1.y h.in_y k.in_y in
    let c = span_least s0.x s1.x in
    let d = span_least s0.y s1.y in
    record { some = omega arith; more = omega arith; most = omega arith; exact = omega (arith, far.tiles) }

-- a number up to 2 ^ 24 is cast to a float without loss
pub in_float_lem : (n : ℕ) → n ≤ 2 ^ 24 → T (in_float binary32 (pos n))
unfolding in_float
in_float_lem n h = le→leb n (2 ^ 24) h
