-- A line that lies within one tile: what the function says of it. Only proofs lean on this: no promise of a public call does. Definitions only.
use Rattle.std.specs.Prelude.{◌≡◌, ℕ, false}
use Rattle.util.specs.declared.Vec2.{Vec2}
use Rattle.panel.specs.Kinds.{tile_no_of}
use Rattle.panel.specs.Paths.{tile_of}
use Rattle.panel.specs.declared.kinds.Path.{Path}
use Rattle.walk.specs.Num.{float}
use Rattle.walk.specs.Page.{line_of}
use Rattle.walk.specs.Lent.{Reached, walked_of}
use Rattle.walk.specs.Step.{Within, z_at, step_of}
use Rattle.walk.specs.Walked.{Line}
use Rattle.walk.specs.Stepped.{Tile}
use Rattle.clip.specs.Page.{clipped_of}
use Rattle.spot.specs.Place.{Spot}
use Rattle.spot.specs.Place.{In, Other}

-- the line from p0 to p1 lies within the tile in column x and row y of the box b: it is walked in one step, which is on that tile and marks
-- nothing, and it passes no row left of the box
pub record OneTile (p0 p1 : Vec2) (b : Path) (x y : ℕ) : Type 0 where
  pub reached : Reached p0 p1
  pub walked : walked_of p0 p1 b ≡ Line (line_of p0 p1) b
  pub within : Within b x y
  pub one_step_lem : (line_of p0 p1).k.count ≡ 1
  pub below_top : (line_of p0 p1).pace.on_top ≡ false
  pub falls : step_of (line_of p0 p1).pace b 0 ≡ Tile (tile_no_of (tile_of b x y)) x y (z_at (line_of p0 p1).pace.a (line_of p0 p1).pace.b (float 0))
  pub clipped : clipped_of (line_of p0 p1) b ≡ record { imin = 0; imax = 1; ymin = b.y0; ymax = 0 }

-- such a tile, by its number, its column and its row; or nothing
abbrev pub SpotMet : Vec2 → Vec2 → Path → Spot → Type 0
SpotMet p0 p1 b (In t x y) = (t ≡ tile_no_of (tile_of b x y)) × OneTile p0 p1 b x y
SpotMet p0 p1 b Other = Unit {0}
