-- Whole calls over lines in boxes with a margin. docs/THEOREMS.md, 16. Definitions only.
use Rattle.std.specs.Prelude.{◌≡◌, List, map, ℕ, ◌+◌, ◌-◌, ◌/◌, ◌<◌, min, length, get_or, ℤ, Float}
use Rattle.panel.specs.Pieces.{Pieces}
use Rattle.lists.specs.Sums.{sum, from}
use Rattle.panel.specs.Limits.{most_lines, most_slots}
use Rattle.panel.specs.Refusals.{no_room_word, crooked}
use Rattle.panel.specs.Widths.{ref_words}
use Rattle.panel.specs.Kinds.{running_of}
use Rattle.panel.specs.Paths.{path_count}
use Rattle.panel.specs.declared.kinds.Running.{Running}
use Rattle.walk.specs.Lent.{line_at, Reached, walk_at}
use Rattle.walk.specs.Walked.{Walked, Refused as WalkRefused, Skipped, Line}
use Rattle.acts.specs.Acts.{st_of}
use Rattle.walked_lines.specs.Line.{plan_of}
use Rattle.path_count.specs.Count.{told_of, paper_of}
use Rattle.path_count.specs.Counted.{Refused}
use Rattle.path_tiling.specs.Tiling.{slots_of}
use Rattle.frame.specs.declared.kinds.Stage.TheVariants as Stage
use Rattle.frame.specs.Framed.{Framed}
use Rattle.margin.specs.Room.{steps_most}
use Rattle.theorems.specs.Margins.{MarginLine}
use Rattle.theorems.specs.Refs.{from_zero, AllCounted}

-- line l passes 5, 6 and 7, and its path's box has a margin around it
pub record Fit (nos : List ℕ) (coords : List Float) (paths : List ℕ) (l : ℕ) : Type 0 where
  pub numbered : l < most_lines
  pub reached : Reached (line_at coords l).p0 (line_at coords l).p1
  pub there : get_or nos l 0 < path_count paths
  pub margin : MarginLine nos coords paths l

-- the steps of a line that are counted, each of which makes a reference: none of a line that is skipped
abbrev pub steps_in : Walked → ℕ
steps_in (WalkRefused n) = 0
steps_in Skipped = 0
steps_in (Line w b) = (plan_of w b).imax - (plan_of w b).imin

abbrev pub steps_at : (nos : List ℕ) (coords : List Float) (paths : List ℕ) → ℕ → ℕ
steps_at nos coords paths l = steps_in (walk_at nos coords paths l)

-- those of the first b lines
abbrev pub steps_of : (nos : List ℕ) (coords : List Float) (paths : List ℕ) → ℕ → ℕ
steps_of nos coords paths b = sum (map (steps_at nos coords paths) (from 0 b))

-- what a caller can sum up instead: for each of the first b lines, how many tiles lie between its ends, across and down, and one
abbrev pub reach_of : List Float → ℕ → ℕ
reach_of coords b = sum (map (λ l. steps_most (line_at coords l).p0 (line_at coords l).p1) (from 0 b))

-- how many references there is room for
abbrev pub room_of : List ℕ → ℕ
room_of refs = min (length refs / ref_words) most_slots

-- what a count of the first b lines into n zeroed tiles comes to: all are counted; or those before line l, whose steps there is no room for
pub data FitCount (b : ℕ) (nos : List ℕ) (coords : List Float) (paths : List ℕ) (n : ℕ) (refs : List ℕ) : Type 0 where
  all : (bs : List ℤ) (cs rs : List ℕ) (m : ℕ) → AllCounted b nos coords paths n refs bs cs rs m → FitCount b nos coords paths n refs
  full : (l : ℕ) (bs : List ℤ) (cs rs : List ℕ) (m : ℕ) → l < b → AllCounted l nos coords paths n refs bs cs rs m → room_of refs < m + steps_at nos coords paths l
      → from_zero b nos coords paths n refs ≡ told_of (paper_of (Refused no_room_word l (running_of l m))) (st_of bs cs rs m) → FitCount b nos coords paths n refs

-- what a frame over so many tiles answers: 0, with all lines counted; 9 in counting, at a line whose steps there is no room for; 9 in hand-out, with fewer
-- segments than references; or 12 in tiling
pub data FitFrame (nos : List ℕ) (coords : List Float) (paths : List ℕ) (n : ℕ) (refs : List ℕ) (p : Pieces) (r : Framed) : Type 0 where
  drawn : (s : Running) → s.lines ≡ length nos → r ≡ Framed.Done s → FitFrame nos coords paths n refs p r
  no_references : (s : Running) (bs : List ℤ) (cs rs : List ℕ) → s.lines < length nos → AllCounted s.lines nos coords paths n refs bs cs rs s.refs
      → room_of refs < s.refs + steps_at nos coords paths s.lines → r ≡ Framed.Refused Stage.Count no_room_word s.lines s → FitFrame nos coords paths n refs p r
  no_segments : (s : Running) (bs : List ℤ) (cs rs : List ℕ) → AllCounted (length nos) nos coords paths n refs bs cs rs s.refs → slots_of (length p.segments) < s.refs
      → r ≡ Framed.Refused Stage.HandOut no_room_word 0 s → FitFrame nos coords paths n refs p r
  crooked_piece : (k : ℕ) (s : Running) → s.lines ≡ length nos → k < s.refs → r ≡ Framed.Refused Stage.Tile crooked k s → FitFrame nos coords paths n refs p r
