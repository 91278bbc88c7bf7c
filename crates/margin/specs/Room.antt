-- A box with a margin around a line's ends. Definitions only.
use Rattle.std.specs.Prelude.{◌≡◌, ℕ, ◌+◌, ◌-◌, ◌≤◌, Float}
use Rattle.std.specs.Float.Ieee.{to_unsigned}
use Rattle.util.specs.declared.Vec2.{Vec2}
use Rattle.panel.specs.declared.kinds.Path.{Path}
use Rattle.panel.specs.declared.kinds.TileNo.{TileNo}
use Rattle.exact.specs.Reach.{scaled}
use Rattle.walk.specs.Step.{step_of}
use Rattle.walk.specs.declared.kinds.Pace.{Pace}
use Rattle.walk.specs.Stepped.{Tile}

-- the tile, counted from 0, that a coordinate from 0 up lies in; tile 0 of any other
abbrev pub tile_at : Float → ℕ
tile_at p = to_unsigned 32 (scaled p)

-- a point in a box that reaches a tile further than the point's tile on every side. So the point lies at 16 or more in both coordinates: there is no tile
-- before tile 0, and what isn't a number, or is below 0, counts as tile 0 here
pub record Inside (b : Path) (p : Vec2) : Type 0 where
  pub left : b.x0 + 1 ≤ tile_at p.x
  pub right : tile_at p.x + 2 ≤ b.x1
  pub top : b.y0 + 1 ≤ tile_at p.y
  pub bottom : tile_at p.y + 2 ≤ b.y1

-- how many tiles lie from one to the other, across and down, and one: as many steps as a line between two such points has at most
abbrev pub apart : ℕ → ℕ → ℕ
apart n m = n - m + (m - n)

abbrev pub steps_most : Vec2 → Vec2 → ℕ
steps_most p q = apart (tile_at p.x) (tile_at q.x) + apart (tile_at p.y) (tile_at q.y) + 1

-- step i has a tile in the box: it isn't refused
pub record HasTile (p : Pace) (b : Path) (i : ℕ) : Type 0 where
  pub t : TileNo
  pub x : ℕ
  pub y : ℕ
  pub z : Float
  pub is : step_of p b i ≡ Tile t x y z
