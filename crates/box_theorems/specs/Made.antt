-- Boxes made from lines: what the theorems are about. docs/THEOREMS.md, 19. Definitions only.
use Rattle.std.specs.Prelude.{◌≡◌, List, ℕ, ◌+◌, ◌*◌, ◌≤◌, ◌<◌, length, Float}
use Rattle.util.specs.declared.Vec2.{Vec2}
use Rattle.panel.specs.Limits.{most_tiles, edge_most}
use Rattle.panel.specs.Refusals.{too_many}
use Rattle.panel.specs.Checks.{first_no}
use Rattle.panel.specs.Lines.{line_at}
use Rattle.panel.specs.declared.kinds.Path.{Path}
use Rattle.panel.specs.Verdict.{Fine, Against}
use Rattle.panel.specs.Answer as Answer
use Rattle.ranges.specs.Ranges.{cleared_of}
use Rattle.end_tiles.specs.Lines.{tile_at, lines_from}
use Rattle.path_reach.specs.Room.{box_words}
use Rattle.box_records.specs.Records.{records_from}
use Rattle.boxes.specs.Boxes.{lent_checks, box_of, tiles_of}
use Rattle.boxes.specs.Boxed.{Boxed, Done, Refused}

-- a point in a box: the tile that it lies in is one of the box's
pub record Within (b : Path) (p : Vec2) : Type 0 where
  pub left : b.x0 ≤ tile_at p.x
  pub right : tile_at p.x < b.x1
  pub top : b.y0 ≤ tile_at p.y
  pub bottom : tile_at p.y < b.y1

-- a point that lies a tile and more from 0 and from the edge limit, across and down
pub record Inner (p : Vec2) : Type 0 where
  pub left : 1 ≤ tile_at p.x
  pub right : tile_at p.x + 2 ≤ edge_most
  pub top : 1 ≤ tile_at p.y
  pub bottom : tile_at p.y + 2 ≤ edge_most

-- so do both ends of a line
pub record InnerLine (coords : List Float) (l : ℕ) : Type 0 where
  pub p0 : Inner (line_at coords l).p0
  pub p1 : Inner (line_at coords l).p1

-- ---- exact at the call

-- the ways that the call goes: refused by a length, at a line, for its tiles; or made
pub data BoxesWay (nos : List ℕ) (coords : List Float) (beams : List ℕ) (m : ℕ) (paths work : List ℕ) (r : Boxed) (paths' work' : List ℕ) : Type 0 where
  lent_refused : (why : ℕ) → first_no (lent_checks (length nos) (length coords) (length paths) (length beams) (length work)) ≡ Against why
      → r ≡ Refused why 0 → paths' ≡ paths → work' ≡ work → BoxesWay nos coords beams m paths work r paths' work'
  line_refused : (why item : ℕ) → first_no (lent_checks (length nos) (length coords) (length paths) (length beams) (length work)) ≡ Fine
      → lines_from nos coords (length beams) (length nos) 0 ≡ Answer.Refused why item
      → r ≡ Refused why item → paths' ≡ paths → work' ≡ work → BoxesWay nos coords beams m paths work r paths' work'
  tiles_refused : first_no (lent_checks (length nos) (length coords) (length paths) (length beams) (length work)) ≡ Fine
      → lines_from nos coords (length beams) (length nos) 0 ≡ Answer.Done → most_tiles < tiles_of nos coords m (length beams)
      → r ≡ Refused too_many 0 → paths' ≡ paths → work' ≡ cleared_of 0 0 (length beams * box_words) work → BoxesWay nos coords beams m paths work r paths' work'
  made : first_no (lent_checks (length nos) (length coords) (length paths) (length beams) (length work)) ≡ Fine
      → lines_from nos coords (length beams) (length nos) 0 ≡ Answer.Done → tiles_of nos coords m (length beams) ≤ most_tiles
      → r ≡ Done (tiles_of nos coords m (length beams)) → paths' ≡ records_from (box_of nos coords m) beams (length beams) 0 0
      → work' ≡ cleared_of 0 0 (length beams * box_words) work → BoxesWay nos coords beams m paths work r paths' work'
