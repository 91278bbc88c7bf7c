-- A line as it is drawn: its path's number and its two ends, wherever it stands in the list; and the acts that counting makes of it. Definitions only.
use Rattle.std.specs.Prelude.{Bool, cond, List, [], ◌∷◌, map, ℕ, ◌≤◌, ◌<◌, ltb, eqb, get_or, ℤ, pos, Float}
use Rattle.lists.specs.Run.{All, sift}
use Rattle.lists.specs.Sums.{from}
use Rattle.panel.specs.Refusals.{coordinate, no_such}
use Rattle.panel.specs.Paths.{path_at, path_count, end_of}
use Rattle.walk.specs.Lent.{line_at, reached_of, walked_of}
use Rattle.panel.specs.declared.lines.LineEnds.{LineEnds}
use Rattle.walk.specs.Walked.{Walked, Refused, Skipped, Line}
use Rattle.acts.specs.Acts.{Act, mark, visit, stop, delta_of}
use Rattle.acts.specs.Line.{plan_acts}
use Rattle.walked_lines.specs.Line.{plan_of}

pub record Drawn : Type 0 where
  pub path : ℕ
  pub ends : LineEnds

abbrev pub drawn_at : List ℕ → List Float → ℕ → Drawn
drawn_at nos coords l = record { path = get_or nos l 0; ends = line_at coords l }

-- the first n lines lent, as they are drawn
abbrev pub drawn : List ℕ → List Float → ℕ → List Drawn
drawn nos coords n = map (drawn_at nos coords) (from 0 n)

-- its walk over the paths lent: 6, then 7, then the skip rules. `walk_is` of proofs/Acts.antt says that counting's is this
unfoldable pub walk_of : List ℕ → Drawn → Walked
walk_of paths d =
    cond (reached_of d.ends.p0 d.ends.p1)
    (cond (ltb d.path (path_count paths)) (walked_of d.ends.p0 d.ends.p1 (path_at paths d.path)) (Refused no_such))
    (Refused coordinate)

-- its acts in order, and what its marks add
abbrev pub acts_by : Walked → List Act
acts_by (Refused n) = []
acts_by Skipped = []
acts_by (Line w b) = plan_acts (plan_of w b)

abbrev pub delta_by : Walked → ℤ
delta_by (Refused n) = pos 0
delta_by Skipped = pos 0
delta_by (Line w b) = delta_of (plan_of w b).up

-- the tiles that acts visit; and their marks, each with what it adds
abbrev pub tiles_in : List Act → List ℕ
tiles_in [] = []
tiles_in (mark t ∷ xs) = tiles_in xs
tiles_in (visit t i ∷ xs) = t ∷ tiles_in xs
tiles_in (stop n ∷ xs) = tiles_in xs

abbrev pub marks_in : ℤ → List Act → List (ℕ × ℤ)
marks_in δ [] = []
marks_in δ (mark t ∷ xs) = (t, δ) ∷ marks_in δ xs
marks_in δ (visit t i ∷ xs) = marks_in δ xs
marks_in δ (stop n ∷ xs) = marks_in δ xs

-- of a line
abbrev pub tiles_of : List ℕ → Drawn → List ℕ
tiles_of paths d = tiles_in (acts_by (walk_of paths d))

abbrev pub marks_of : List ℕ → Drawn → List (ℕ × ℤ)
marks_of paths d = marks_in (delta_by (walk_of paths d)) (acts_by (walk_of paths d))

-- whether it is of path p; and those lines of a list that are, in order
abbrev pub is_of : ℕ → Drawn → Bool
is_of p d = eqb d.path p

abbrev pub of_path : ℕ → List Drawn → List Drawn
of_path p ds = sift (is_of p) ds

-- path p is there, and tile t lies in its range
abbrev pub InPath : List ℕ → ℕ → ℕ → Type 0
InPath paths p t = (p < path_count paths) × ((path_at paths p).first ≤ t) × (t < end_of (path_at paths p))

-- all that a line visits and marks lies in its own path's range
pub record OwnLine (paths : List ℕ) (d : Drawn) : Type 0 where
  pub visits : All (InPath paths d.path) (tiles_of paths d)
  pub marks : All (λ m. InPath paths d.path m.0) (marks_of paths d)
