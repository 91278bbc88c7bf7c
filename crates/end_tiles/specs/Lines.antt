-- The tile that a line's end lies in; and lines checked in order, before boxes are made from them. docs/RULES.md, "Boxes". Definitions only.
use Rattle.std.specs.Prelude.{Bool, ◌&&◌, List, [], ◌∷◌, ℕ, zero, suc, ◌<◌, ltb, get_or, Float}
use Rattle.std.specs.Float.Ieee.{to_unsigned}
use Rattle.util.specs.declared.Vec2.{Vec2}
use Rattle.panel.specs.Limits.{edge_most, most_lines}
use Rattle.panel.specs.Refusals.{bad_box, line_number, coordinate, no_such}
use Rattle.panel.specs.Checks.{check, first_no, unless}
use Rattle.panel.specs.Lines.{line_at}
use Rattle.panel.specs.Answer.{Answer}
use Rattle.panel.specs.declared.lines.LineEnds.{LineEnds}
use Rattle.exact.specs.Reach.{scaled}
use Rattle.walk.specs.Lent.{reached_of, Reached}

-- the tile, counted from 0, that a coordinate lies in; one below 0 counts as in tile 0
abbrev pub tile_at : Float → ℕ
tile_at v = to_unsigned 32 (scaled v)

-- a point in a tile whose outer edges are no edges over the limit
unfoldable pub in_tiles : Vec2 → Bool
in_tiles p = ltb (tile_at p.x) edge_most && ltb (tile_at p.y) edge_most

-- line l, with its path's number, among n paths: 5, 6 and 7 with the line's number, then 3 with the path's
unfoldable pub line_answer : LineEnds → (path n l : ℕ) → Answer
line_answer e path n l =
    unless (first_no (check (ltb l most_lines) line_number ∷ check (reached_of e.p0 e.p1) coordinate ∷ check (ltb path n) no_such ∷ [])) l
    (unless (first_no (check (in_tiles e.p0 && in_tiles e.p1) bad_box ∷ [])) path Answer.Done)

abbrev pub onward : Answer → Answer → Answer
onward Answer.Done next = next
onward (Answer.Refused why item) next = Answer.Refused why item

-- so many lines from line l on, in order
unfoldable pub lines_from : (nos : List ℕ) (coords : List Float) (n : ℕ) → ℕ → ℕ → Answer
lines_from nos coords n zero l = Answer.Done
lines_from nos coords n (suc more) l = onward (line_answer (line_at coords l) (get_or nos l 0) n l) (lines_from nos coords n more (suc l))

-- what is meant by a line that passes
pub record LineOk (e : LineEnds) (path n l : ℕ) : Type 0 where
  pub numbered : l < most_lines
  pub reached : Reached e.p0 e.p1
  pub there : path < n
  pub p0x : tile_at e.p0.x < edge_most
  pub p0y : tile_at e.p0.y < edge_most
  pub p1x : tile_at e.p1.x < edge_most
  pub p1y : tile_at e.p1.y < edge_most
