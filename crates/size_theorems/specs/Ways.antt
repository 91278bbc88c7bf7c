-- The ways in which `sizes` can end, and the grounds of its refusals. docs/THEOREMS.md, "Sizes". Definitions only.
use Rattle.std.specs.Prelude.{◌≡◌, List, ℕ, ◌+◌, ◌-◌, ◌≤◌, ◌<◌, length, get_or, Float}
use Rattle.lists.specs.Run.{done}
use Rattle.panel.specs.Limits.{most_tiles, most_lines, most_steps, most_slots}
use Rattle.panel.specs.Refusals.{line_number, coordinate, no_such, count_over, no_room_word}
use Rattle.panel.specs.Checks.{Check, first_no}
use Rattle.panel.specs.Paths.{path_count, paths_answer}
use Rattle.panel.specs.declared.kinds.Path.{Path}
use Rattle.panel.specs.Answer as Answer
use Rattle.panel.specs.Verdict.{Fine}
use Rattle.walk.specs.Lent.{line_at}
use Rattle.walk.specs.declared.kinds.Walk.{Walk}
use Rattle.walked_lines.specs.Line.{plan_of}
use Rattle.theorems.specs.Refusing.{RowWhy, PathsWhy, BadEnds, Walks}
use Rattle.sizes.specs.Refs.{lines_size}
use Rattle.sizes.specs.Words.{tiles_of, words_of}
use Rattle.sizes.specs.Sizes.{lent_checks, room_of}
use Rattle.sizes.specs.Measured.{Measured, Done, Refused}

-- line l, after so many references, is refused with n
pub data SizeWhy (nos : List ℕ) (coords : List Float) (paths : List ℕ) (l made n : ℕ) : Type 0 where
  -- 5: line number 65,536 or more
  five : n ≡ line_number → most_lines ≤ l → SizeWhy nos coords paths l made n
  -- 6: a coordinate not finite, or over the limit
  six : n ≡ coordinate → l < most_lines → BadEnds (line_at coords l) → SizeWhy nos coords paths l made n
  -- 7: no such path
  seven : n ≡ no_such → l < most_lines → (BadEnds (line_at coords l) → ⊥) → path_count paths ≤ get_or nos l 0 → SizeWhy nos coords paths l made n
  -- 8: its largest step number is over 65,535
  eight : n ≡ count_over → (w : Walk) (b : Path) → Walks nos coords paths l w b → (plan_of w b).imin < (plan_of w b).imax → most_steps < (plan_of w b).imax
      → SizeWhy nos coords paths l made n
  -- 9: references so far plus the line's over 16,777,216
  nine : n ≡ no_room_word → (w : Walk) (b : Path) → Walks nos coords paths l w b → ((plan_of w b).imin < (plan_of w b).imax → (plan_of w b).imax ≤ most_steps)
      → most_slots < made + ((plan_of w b).imax - (plan_of w b).imin) → SizeWhy nos coords paths l made n

-- the row of its checks
abbrev pub sizes_row : (nos : List ℕ) (coords : List Float) (paths : List ℕ) (cols rows : ℕ) → List Check
sizes_row nos coords paths cols rows = lent_checks (length nos) (length coords) (length paths) cols rows

abbrev pub Passes : (nos : List ℕ) (coords : List Float) (paths : List ℕ) (cols rows : ℕ) → Type 0
Passes nos coords paths cols rows = (first_no (sizes_row nos coords paths cols rows) ≡ Fine) × (paths_answer paths most_tiles ≡ Answer.Done)

pub data SizesWay (nos : List ℕ) (coords : List Float) (paths : List ℕ) (cols rows : ℕ) (x : Measured) : Type 0 where
  -- 1 and 2, by the first check that fails
  row_refused : (n : ℕ) → x ≡ Refused n 0 → RowWhy n (sizes_row nos coords paths cols rows) → SizesWay nos coords paths cols rows x
  -- the paths', over as many tiles as there can be
  paths_refused : (n k : ℕ) → x ≡ Refused n k → first_no (sizes_row nos coords paths cols rows) ≡ Fine → PathsWhy paths most_tiles n k
      → SizesWay nos coords paths cols rows x
  -- line l is refused, the first: those before it make so many references
  line_refused : (n l made : ℕ) → x ≡ Refused n l → Passes nos coords paths cols rows → l < length nos → lines_size nos coords paths 0 l 0 ≡ done made
      → SizeWhy nos coords paths l made n → SizesWay nos coords paths cols rows x
  -- told
  all_told : (made : ℕ) → x ≡ Done (room_of (tiles_of paths) made (words_of paths cols rows)) → Passes nos coords paths cols rows
      → lines_size nos coords paths 0 (length nos) 0 ≡ done made → SizesWay nos coords paths cols rows x
