-- A step's tile, and whether it marks the tile right of it: path_count.rs, lines 131 to 151. Definitions only.
use Rattle.std.specs.Prelude.{ℕ, ◌+◌, ◌≤◌, ◌<◌, Bool, false, cond, ◌&&◌, eqb, ltb, ℤ, ◌+ℤ◌, Float}
use Rattle.std.specs.Float.{binary32}
use Rattle.std.specs.Float.Ieee.{add, sub, mul, eq, to_signed}
use Rattle.std.specs.Float.Ieee.Scale.{finite}
use Rattle.float32.specs.Meaning.{floor_of}
use Rattle.util.specs.Constants.{one}
use Rattle.panel.specs.Limits.{edge_most, most_tiles}
use Rattle.panel.specs.Kinds.{tile_no_of}
use Rattle.panel.specs.Paths.{end_of, tile_of}
use Rattle.panel.specs.declared.kinds.Path.{Path}
use Rattle.walk.specs.Num.{float, cut_of, inside_of}
use Rattle.walk.specs.declared.kinds.Pace.{Pace}
use Rattle.walk.specs.Stepped.{Step}
use Rattle.walk.specs.Stepped.{Tile, Refused}

-- a path that passed its checks: its box's edges are within the limit and in order, and its tiles are among those that may be lent
pub record Boxed (b : Path) : Type 0 where
  pub left : b.x0 ≤ b.x1
  pub top : b.y0 ≤ b.y1
  pub wide : b.x1 ≤ edge_most
  pub high : b.y1 ≤ edge_most
  pub last : end_of b ≤ most_tiles

-- the tile in column x and row y is in the box
pub record Within (b : Path) (x y : ℕ) : Type 0 where
  pub col_least : b.x0 ≤ x
  pub col_most : x < b.x1
  pub row_least : b.y0 ≤ y
  pub row_most : y < b.y1

-- z at a step number that is a float: floor (a f + b)
unfoldable pub z_at : (a b f : Float) → Float
z_at a b f = floor_of (add binary32 (mul binary32 a f) b)

-- the tile in column x and row y, or a refusal (10) where z is not finite or the tile is outside the box
unfoldable pub tile_in : Path → (x y : ℤ) → (z : Float) → Step
tile_in b x y z =
    cond (finite z && (inside_of x b.x0 b.x1 && inside_of y b.y0 b.y1))
    (Tile (tile_no_of (tile_of b (cut_of x) (cut_of y))) (cut_of x) (cut_of y) z)
    Refused

-- step i
unfoldable pub step_of : Pace → Path → ℕ → Step
step_of p b i =
    let z = z_at p.a p.b (float i) in
    let y = to_signed 31 (sub binary32 (add binary32 p.y0 (float i)) z) in
    let x = to_signed 31 (add binary32 p.x0 (mul binary32 p.sign z)) in
    tile_in b x y z

-- the same as path_tiling.rs has it, line 57: x is a sum of two whole numbers. `steps_agree` of proofs/Tiles.antt says that it is no other step.
unfoldable pub step_again_of : Pace → Path → ℕ → Step
step_again_of p b i =
    let z = z_at p.a p.b (float i) in
    let x = to_signed 31 p.x0 +ℤ to_signed 31 (mul binary32 p.sign z) in
    let y = to_signed 31 (sub binary32 (add binary32 p.y0 (float i)) z) in
    tile_in b x y z

-- z of the step before, as the file computes it before the first step of a clipped walk
abbrev pub last_z_word : Pace → ℕ → Float
last_z_word p i = z_at p.a p.b (sub binary32 (float i) one)

-- a step in column x crosses its tile's top edge, and the tile right of it is in the box
abbrev pub cross_of : (on_top : Bool) (x1 i : ℕ) (lastz : Float) (x : ℕ) (z : Float) → Bool
cross_of on_top x1 i lastz x z = cond (eqb i 0) on_top (eq lastz z) && ltb (x + 1) x1

-- so step i marks the tile right of it
abbrev pub cross_in : Pace → Path → ℕ → Step → Bool
cross_in p b i (Tile t x y z) = cross_of p.on_top b.x1 i (last_z_word p i) x z
cross_in p b i Refused = false

unfoldable pub crosses_at : Pace → Path → ℕ → Bool
crosses_at p b i = cross_in p b i (step_of p b i)
