-- A line as it is lent that lies within one tile, and what is known of it where it may be counted with no walk. Only proofs lean on this: no promise
-- of a public call does. Definitions only.
use Rattle.std.specs.Prelude.{◌≡◌, false, List, ℕ, ◌+◌, ◌*◌, ◌<◌, ◌≤◌, length, get_or, Float}
use Rattle.panel.specs.Limits.{most_count, most_slots}
use Rattle.panel.specs.Lines.{line_at}
use Rattle.panel.specs.Paths.{path_at, path_count}
use Rattle.panel.specs.Widths.{ref_words}
use Rattle.panel.specs.declared.kinds.Path.{Path}
use Rattle.panel.specs.declared.kinds.TileNo.{TileNo}
use Rattle.walk.specs.Lent.{walk_at}
use Rattle.walk.specs.Step.{Boxed, step_of}
use Rattle.walk.specs.declared.kinds.Walk.{Walk}
use Rattle.walk.specs.Walked.{Line}
use Rattle.walk.specs.Stepped.{Tile}
use Rattle.clip.specs.Page.{clipped_of}
use Rattle.spot.specs.Spot.{SpotMet}
use Rattle.spot.specs.Place.{Spot}
use Rattle.spot.specs.Place.{In as SpotIn, Other as SpotOther}
use Rattle.one_tile.specs.TileFound.{One}
use Rattle.one_tile.specs.TileFound.{In, Other}

-- each path that is there passed its checks
abbrev pub Boxes : List ℕ → Type 0
Boxes paths = (k : ℕ) → k < path_count paths → Boxed (path_at paths k)

-- the tile that the line at place k of those lent lies in, where its path is there; or nothing
abbrev pub SpotAt : (nos : List ℕ) (coords : List Float) (paths : List ℕ) → ℕ → Spot → Type 0
SpotAt nos coords paths k (SpotIn t x y) = (get_or nos k 0 < path_count paths) × SpotMet (line_at coords k).p0 (line_at coords k).p1 (path_at paths (get_or nos k 0)) (SpotIn t x y)
SpotAt nos coords paths k SpotOther = Unit {0}

-- the line at place k is walked in one step, on tile t, which marks nothing, and no row is marked. The tile is among those counted and can be counted
-- once more, and there is room for reference number made in so many words
pub record Alone (nos : List ℕ) (coords : List Float) (paths : List ℕ) (k made : ℕ) (counts : List ℕ) (refs : ℕ) (t : TileNo) : Type 0 where
  pub w : Walk
  pub b : Path
  pub x : ℕ
  pub y : ℕ
  pub z : Float
  pub walked : walk_at nos coords paths k ≡ Line w b
  pub falls : step_of w.pace b 0 ≡ Tile t x y z
  pub below_top : w.pace.on_top ≡ false
  pub clipped : clipped_of w b ≡ record { imin = 0; imax = 1; ymin = b.y0; ymax = 0 }
  pub lent : t.0 < length counts
  pub free : get_or counts t.0 0 < most_count
  pub room : ref_words * made + ref_words ≤ refs
  pub few : made < most_slots

-- such a tile; or nothing
abbrev pub OneMet : (nos : List ℕ) (coords : List Float) (paths : List ℕ) (k made : ℕ) (counts : List ℕ) (refs : ℕ) → One → Type 0
OneMet nos coords paths k made counts refs (In t) = Alone nos coords paths k made counts refs t
OneMet nos coords paths k made counts refs Other = Unit {0}
