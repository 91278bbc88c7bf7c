-- How wide the records lent are, and where a path's and a paint's words stand. Definitions only.
use Rattle.std.specs.Prelude.{List, [], ◌∷◌, ℕ}

-- words to a path: box x0, y0, x1, y1 in tiles, then its first tile, then the beam number stamped on the steel
abbrev pub path_words : ℕ
path_words = 6

-- floats to a line: p0.x, p0.y, p1.x, p1.y
abbrev pub line_floats : ℕ
line_floats = 4

-- words to a reference: line number, then slice number times `step_range` plus step number
abbrev pub ref_words : ℕ
ref_words = 2

-- the step numbers that a reference's second word can tell apart
unfoldable pub step_range : ℕ
step_range = 65536

-- floats to a segment: point0.x, point0.y, point1.x, point1.y, y_edge
abbrev pub segment_floats : ℕ
segment_floats = 5

-- words to a paint, one for each path: its colour, then its fill rule
abbrev pub paint_words : ℕ
paint_words = 2

-- the places of a path's words
abbrev pub place_x0 : ℕ
place_x0 = 0

abbrev pub place_y0 : ℕ
place_y0 = 1

abbrev pub place_x1 : ℕ
place_x1 = 2

abbrev pub place_y1 : ℕ
place_y1 = 3

abbrev pub place_first : ℕ
place_first = 4

abbrev pub place_beam : ℕ
place_beam = 5

-- the places of a paint's words
abbrev pub place_colour : ℕ
place_colour = 0

abbrev pub place_rule : ℕ
place_rule = 1

-- all of them
abbrev pub widths : List ℕ
widths =
    path_words
    ∷ line_floats
    ∷ ref_words
    ∷ step_range
    ∷ segment_floats
    ∷ paint_words
    ∷ place_x0
    ∷ place_y0
    ∷ place_x1
    ∷ place_y1
    ∷ place_first
    ∷ place_beam
    ∷ place_colour
    ∷ place_rule
    ∷ []
