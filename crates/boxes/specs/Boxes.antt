-- The boxes of paths, from their lines: for each path the tiles that its lines' ends lie in, a margin larger on every side, then first tiles one after
-- another. No word of the working room decides anything here: that room is only asked for and cleared. docs/RULES.md, "Boxes". Definitions only.
use Rattle.std.specs.Prelude.{◌≡◌, cond, List, [], ◌∷◌, map, ℕ, zero, suc, ◌+◌, ◌-◌, ◌*◌, ◌/◌, ◌%◌, min, max, leb, eqb, length, get_or, Float}
use Rattle.lists.specs.Sums.{sum, from}
use Rattle.ranges.specs.Ranges.{cleared_of}
use Rattle.util.specs.declared.Vec2.{Vec2}
use Rattle.panel.specs.Limits.{most_paths, most_tiles, edge_most}
use Rattle.panel.specs.Refusals.{not_whole, too_many, no_room_word}
use Rattle.panel.specs.Widths.{path_words, line_floats}
use Rattle.panel.specs.Checks.{Check, check, first_no, unless}
use Rattle.panel.specs.Lines.{line_at}
use Rattle.panel.specs.Paths.{path_of}
use Rattle.panel.specs.declared.kinds.Path.{Path}
use Rattle.panel.specs.Answer.{Answer}
use Rattle.end_tiles.specs.Lines.{tile_at, lines_from}
use Rattle.path_reach.specs.Room.{box_words}
use Rattle.box_records.specs.Records.{area_of_word, records_from}
use Rattle.boxes.specs.Boxed.{Boxed, Done, Refused}

-- ---- boxes

-- the ends of path k's lines: so many lines from line l on
unfoldable pub ends_from : (nos : List ℕ) (coords : List Float) (k : ℕ) → ℕ → ℕ → List Vec2
ends_from nos coords k zero l = []
ends_from nos coords k (suc more) l =
    cond (eqb (get_or nos l 0) k) ((line_at coords l).p0 ∷ (line_at coords l).p1 ∷ ends_from nos coords k more (suc l)) (ends_from nos coords k more (suc l))

-- the columns, and the rows, of tiles that points lie in
abbrev pub columns : List Vec2 → List ℕ
columns ps = map (λ p. tile_at p.x) ps

abbrev pub rows : List Vec2 → List ℕ
rows ps = map (λ p. tile_at p.y) ps

-- the first of them, and the one past the last
abbrev pub least : List ℕ → ℕ
least [] = edge_most
least (t ∷ ts) = min t (least ts)

abbrev pub past : List ℕ → ℕ
past [] = 0
past (t ∷ ts) = max (suc t) (past ts)

-- the box around these points, m tiles larger on every side as far as 0 and the edge limit let it; an empty one around none
abbrev pub box_around : ℕ → List Vec2 → ℕ → Path
box_around m [] first = path_of 0 0 0 0 first
box_around m (p ∷ ps) first =
    path_of (least (columns (p ∷ ps)) - m) (least (rows (p ∷ ps)) - m) (min (past (columns (p ∷ ps)) + m) edge_most) (min (past (rows (p ∷ ps)) + m) edge_most) first

-- path k's, with its first tile
abbrev pub box_of : (nos : List ℕ) (coords : List Float) (m : ℕ) → ℕ → ℕ → Path
box_of nos coords m k first = box_around m (ends_from nos coords k (length nos) 0) first

-- the tiles that the boxes of n paths take
abbrev pub tiles_of : (nos : List ℕ) (coords : List Float) (m n : ℕ) → ℕ
tiles_of nos coords m n = sum (map (λ k. area_of_word (box_of nos coords m k 0)) (from 0 n))

-- ---- the call

-- the lengths lent: path numbers, coordinates, words of paths, beam numbers, words of working room
abbrev pub lent_checks : (nn nc np nb nw : ℕ) → List Check
lent_checks nn nc np nb nw =
    check (eqb (nc % line_floats) 0) not_whole
    ∷ check (eqb nn (nc / line_floats)) not_whole
    ∷ check (eqb (np % path_words) 0) not_whole
    ∷ check (eqb nb (np / path_words)) not_whole
    ∷ check (leb nb most_paths) too_many
    ∷ check (leb (nb * box_words) nw) no_room_word
    ∷ []

-- the answer, the paths and the working room afterwards
pub record Out : Type 0 where
  pub answer : Boxed
  pub paths : List ℕ
  pub work : List ℕ

abbrev pub out_of : Boxed → List ℕ → List ℕ → Out
out_of r paths work = record { answer = r; paths = paths; work = work }

-- the lengths lent, then the lines
unfoldable pub asked_of : (nos : List ℕ) (coords : List Float) (beams paths work : List ℕ) → Answer
asked_of nos coords beams paths work =
    unless (first_no (lent_checks (length nos) (length coords) (length paths) (length beams) (length work))) 0 (lines_from nos coords (length beams) (length nos) 0)

-- a refusal of these leaves all as it was
abbrev pub asked_out : Answer → (paths work : List ℕ) → Out → Out
asked_out Answer.Done paths work next = next
asked_out (Answer.Refused why item) paths work next = out_of (Refused why item) paths work

-- then 2 where the tiles are too many, or the records; either way the working room is 0 so far as it is asked for
abbrev pub made_of : (tiles n : ℕ) (records paths work : List ℕ) → Out
made_of tiles n records paths work =
    cond (leb tiles most_tiles) (out_of (Done tiles) records (cleared_of 0 0 (n * box_words) work)) (out_of (Refused too_many 0) paths (cleared_of 0 0 (n * box_words) work))

unfoldable pub boxes_of : (nos : List ℕ) (coords : List Float) (beams : List ℕ) (m : ℕ) (paths work : List ℕ) → Out
boxes_of nos coords beams m paths work =
    asked_out (asked_of nos coords beams paths work) paths work
    (made_of (tiles_of nos coords m (length beams)) (length beams) (records_from (box_of nos coords m) beams (length beams) 0 0) paths work)

-- the call's promise: the answer r, the paths and the working room afterwards are these
abbrev pub BoxesMet : (nos : List ℕ) (coords : List Float) (beams : List ℕ) (m : ℕ) (paths work : List ℕ) → Boxed → (paths' work' : List ℕ) → Type 0
BoxesMet nos coords beams m paths work r paths' work' = out_of r paths' work' ≡ boxes_of nos coords beams m paths work
